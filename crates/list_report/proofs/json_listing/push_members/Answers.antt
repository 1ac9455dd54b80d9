use Rattle.json_report.proofs.Adding.{part, last}
use Rattle.list_report.proofs.json_listing.push_members.Goals as goal

pub returns : goal.returns
returns c = (part _ c.in_ok-push_listing.ensures (last _ _ c.push_which.ensures)).adds
