use Rattle.connected_laws.proofs.Groups.{are_groups}
use Rattle.connected_laws.proofs.Starts.{set_from}
use Rattle.connected_laws.proofs.laws.growing_gives_groups.Goals as goal

pub returns-clause-groups : goal.returns-clause-groups
returns-clause-groups c = are_groups

pub returns-clause-sets : goal.returns-clause-sets
returns-clause-sets c = set_from
