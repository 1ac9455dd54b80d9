use Rattle.branch_bound.specs.Searching.{search_state}
use Rattle.search_groups.proofs.NextMoves.{some_size}
use Rattle.branch_bound.proofs.judging.weighed.Goals as goal

pub weighed_leaf-requires-clause-size : goal.weighed_leaf-requires-clause-size
weighed_leaf-requires-clause-size g c =
    some_size g.row.C.Denot g.C.CountySet.test g.C.CountySet.PLACES c.args.input.now c.requires.input c.places.ensures.order (search_state c.args.input.now g.C.CountySet.test c.args.position.state) c.args.position c.requires.at c.requires.some

pub returns-in-Some : goal.returns-in-Some
returns-in-Some g c = (rw c.in-Some.is at c.in_ok-leaf.ensures.leaf, λ fits. rw c.in-Some.is at c.in_ok-leaf.ensures.complete)

pub returns : goal.returns
returns g c = c.branch_at.ensures
