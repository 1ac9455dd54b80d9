use Rattle.branch_bound.specs.Searching.{search_problem, search_round, search_state}
use Rattle.branch_bound.proofs.LeafEnds.{leaf_complete}
use Rattle.branch_bound.proofs.Joining.{sorted_as}
use Rattle.branch_bound.proofs.plain_judging.last_end.Goals as goal

pub returns-in-Some : goal.returns-in-Some
returns-in-Some g c = (
  rw c.in-Some.is at c.in_ok-leaf.ensures.leaf,
  leaf_complete (search_problem c.args.input.now) (search_round c.args.input.now) (search_state c.args.input.now g.C.CountySet.test c.args.state.now) c.in-Some.leaf c.problem-problem.ensures.law c.requires.at.state c.requires.no_seats (rw c.in-Some.is at c.in_ok-leaf.ensures.complete),
)

pub returns : goal.returns
returns g c = record {
  found = c.in_ok-found.ensures.found;
  sorted = sorted_as c.args.input.now.graph.now.ordered.now.order c.args.input.now.round.now.order c.in_ok-found.found.groups.items c.requires.input.order c.in_ok-found.ensures.in_turn c.in_ok-found.ensures.in_order;
  lines = c.in_ok-found.ensures.lines;
}
