use Rattle.search_groups.proofs.KnownGroups.{known_serves}
use Rattle.search_groups.proofs.laws.known_serves.Goals as goal

pub returns : goal.returns
returns c = known_serves
