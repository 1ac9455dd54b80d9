use Rattle.json_report.proofs.Adding.{part, last}
use Rattle.json_report.proofs.report.push_found.Goals as goal

pub returns : goal.returns
returns c = (part _ c.in_ok-push_steps.ensures (last _ _ c.push_grouping.ensures)).adds
