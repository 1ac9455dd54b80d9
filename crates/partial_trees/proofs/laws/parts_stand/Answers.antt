use Rattle.partial_trees.proofs.Standing as proved
use Rattle.partial_trees.proofs.laws.parts_stand.Goals as goal

pub returns : goal.returns
returns c = proved.parts_stand
