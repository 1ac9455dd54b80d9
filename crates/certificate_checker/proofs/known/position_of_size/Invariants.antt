use Rattle.std.proofs.Common.{◌-◌, length}
use Rattle.county_problem.specs.OrderedValue.{problem_at}
use Rattle.search_groups.specs.PartLists.{AreListsOf}
use Rattle.search_groups.specs.Positions.{search_state, IsPositionAt}
use Rattle.certificate_checker.proofs.known.position_of_size.Given as goal

abbrev pub decreases-loop-position : goal.decreases-loop-position
decreases-loop-position g l = l.size - l.position.size

abbrev pub invariant-loop-position : goal.invariant-loop-position
invariant-loop-position g l = record {
  at : IsPositionAt g.C.CountySet.test l.search (search_state l.search g.C.CountySet.test l.fn.position.state) l.position;
  lists : AreListsOf g.C.CountySet.test (problem_at l.search.graph.now.ordered.now) (length l.search.graph.now.ordered.now.order) l.lists;
}
