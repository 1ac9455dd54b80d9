use Rattle.std.proofs.Common.{arith}
use Rattle.branch_bound.specs.Searching.{search_problem, search_round, search_state}
use Rattle.branch_bound.proofs.LeafEnds.{leaf_complete}
use Rattle.search_groups.proofs.NextMoves.{none_at}
use Rattle.branch_bound.proofs.Joining.{sorted_as}
use Rattle.branch_bound.proofs.judging.next_size.Goals as goal

pub empty_leaf-requires-clause-none : goal.empty_leaf-requires-clause-none
empty_leaf-requires-clause-none g c =
    none_at g.row.C.Denot g.C.CountySet.test g.C.CountySet.PLACES c.args.input.now c.requires.input c.requires.input.graph.order (search_state c.args.input.now g.C.CountySet.test c.args.position.now.state) c.args.position.now c.requires.at c.requires.none

pub finished_grouping-requires-clause-none : goal.finished_grouping-requires-clause-none
finished_grouping-requires-clause-none g c = λ group fits small.
    none_at g.row.C.Denot g.C.CountySet.test g.C.CountySet.PLACES c.args.input.now c.requires.input c.requires.input.graph.order (search_state c.args.input.now g.C.CountySet.test c.args.position.now.state) c.args.position.now c.requires.at c.requires.none group fits (omega (arith, small, c.if-size-input.true))

pub returns-then-size-input-clause-next : goal.returns-then-size-input-clause-next
returns-then-size-input-clause-next g c = record {
  found = c.in_ok-found.ensures.found;
  sorted = sorted_as c.args.input.now.graph.now.ordered.now.order c.args.input.now.round.now.order c.in_ok-found.found.groups.items c.requires.input.order c.in_ok-found.ensures.in_turn c.in_ok-found.ensures.in_order;
  lines = c.in_ok-found.ensures.lines;
}

pub room_leaf-requires-clause-none : goal.room_leaf-requires-clause-none
room_leaf-requires-clause-none g c = λ group fits small.
    none_at g.row.C.Denot g.C.CountySet.test g.C.CountySet.PLACES c.args.input.now c.requires.input c.requires.input.graph.order (search_state c.args.input.now g.C.CountySet.test c.args.position.now.state) c.args.position.now c.requires.at c.requires.none group fits (omega (arith, small))

pub returns-in-Some-clause-next : goal.returns-in-Some-clause-next
returns-in-Some-clause-next g c = (
  rw c.in-Some.is at c.in_ok-leaf.ensures.leaf,
  leaf_complete (search_problem c.args.input.now) (search_round c.args.input.now) (search_state c.args.input.now g.C.CountySet.test c.args.position.now.state) c.in-Some.leaf c.problem-problem.ensures.law c.requires.at.state c.requires.no_seats (rw c.in-Some.is at c.in_ok-leaf.ensures.complete),
)

pub returns-in-Some-2-clause-next : goal.returns-in-Some-2-clause-next
returns-in-Some-2-clause-next g c = (rw c.in-Some-2.is at c.in_ok-leaf-2.ensures.leaf, λ fits. rw c.in-Some-2.is at c.in_ok-leaf-2.ensures.complete)

pub returns-in-Ok-clause-next : goal.returns-in-Ok-clause-next
returns-in-Ok-clause-next g c = (omega (arith, c.requires.at.small, c.if-size-input.false), c.in-Ok.ensures.below, c.in-Ok.ensures.groups)
