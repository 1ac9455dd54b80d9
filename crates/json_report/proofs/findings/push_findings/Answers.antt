use Rattle.json_report.proofs.Adding.{token, part, last_token}
use Rattle.json_report.proofs.findings.push_findings.Goals as goal

pub returns : goal.returns
returns c =
    (part _ c.in_ok-push_answer.ensures
    (token c.in_ok-key.ensures
    (token c.in_ok-begin_array.ensures (part _ c.in_ok-push_objects.ensures (last_token _ c.end_array.ensures))))).adds
