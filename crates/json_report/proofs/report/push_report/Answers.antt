use Rattle.json_report.proofs.Adding.{part, last}
use Rattle.json_report.proofs.report.push_report.Goals as goal

pub returns : goal.returns
returns c =
    (part _ c.in_ok-push_answer.ensures (part _ c.in_ok-push_head.ensures (last _ _ c.push_grouping.ensures))).adds
