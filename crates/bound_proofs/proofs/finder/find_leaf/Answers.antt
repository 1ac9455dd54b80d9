use Rattle.bound_proofs.proofs.finder.find_leaf.Goals as goal

pub returns-in-Some-2 : goal.returns-in-Some-2
returns-in-Some-2 g c = rw c.in-Some-2.is at c.in_ok-lines.ensures
