use Rattle.json_report.proofs.Adding.{part, last}
use Rattle.json_report.proofs.report.push_steps.Goals as goal

pub returns : goal.returns
returns c =
    (part _ c.in_ok-push_answer.ensures (part _ c.in_ok-push_number.ensures (last _ _ c.push_head.ensures))).adds
