use Rattle.branch_bound.proofs.judging.early_leaf.Goals as goal

pub returns-in-Some : goal.returns-in-Some
returns-in-Some g c = (rw c.in-Some.is at c.in_ok-leaf.ensures.leaf, λ fits. rw c.in-Some.is at c.in_ok-leaf.ensures.complete)
