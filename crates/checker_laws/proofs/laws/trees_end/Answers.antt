use Rattle.checker_laws.proofs.Trees.{trees_end}
use Rattle.checker_laws.proofs.laws.trees_end.Goals as goal

pub returns : goal.returns
returns c = trees_end
