use Rattle.json_report.proofs.Adding.{token, part, last_token}
use Rattle.json_report.proofs.report.push_open.Goals as goal

pub returns : goal.returns
returns c =
    (part _ c.in_ok-push_steps.ensures (token c.in_ok-key.ensures (last_token _ c.null.ensures))).adds
