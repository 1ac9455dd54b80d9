use Rattle.grouping_laws.proofs.ToleranceLaws.{names_its_own}
use Rattle.grouping_laws.proofs.laws.problems_name_their_tolerance.Goals as goal

pub returns : goal.returns
returns c = names_its_own
