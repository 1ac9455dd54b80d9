use Rattle.list_laws.proofs.Certified.{shared_group}
use Rattle.list_laws.proofs.laws.shared_groups.Goals as goal

pub returns : goal.returns
returns c = shared_group
