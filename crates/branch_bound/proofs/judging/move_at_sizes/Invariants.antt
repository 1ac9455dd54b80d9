use Rattle.std.proofs.Common.{◌≡◌, ◌≤◌, ◌-◌}
use Rattle.std.proofs.Common.{length}
use Rattle.county_problem.specs.OrderedValue.{problem_at}
use Rattle.search_groups.specs.PartLists.{AreListsOf}
use Rattle.branch_bound.specs.Searching.{search_state, IsPositionAt}
use Rattle.branch_bound.proofs.judging.move_at_sizes.Given as goal

abbrev pub decreases-loop-position : goal.decreases-loop-position
decreases-loop-position g l = l.input.round.now.limit - l.position.size

abbrev pub invariant-loop-position : goal.invariant-loop-position
invariant-loop-position g l = record {
  at : IsPositionAt g.C.CountySet.test l.input (search_state l.input g.C.CountySet.test l.fn.position.state) l.position;
  state : l.position.state ≡ l.fn.position.state;
  lists : AreListsOf g.C.CountySet.test (problem_at l.input.graph.now.ordered.now) (length l.input.graph.now.ordered.now.order) l.lists;
  more : l.fn.steps.used ≤ l.steps.used;
  limit : l.steps.limit ≡ l.fn.steps.limit;
}
