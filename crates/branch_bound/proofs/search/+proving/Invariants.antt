use Rattle.std.proofs.Common.{◌≡◌, ◌≤◌, ◌+◌, ◌*◌, ◌-◌, take}
use Rattle.state_groups.specs.PlacedValues.{codes_of_sets}
use Rattle.std.proofs.Common.{length}
use Rattle.county_problem.specs.OrderedValue.{problem_at}
use Rattle.search_groups.specs.PartLists.{AreListsOf}
use Rattle.branch_bound.specs.Searching.{search_problem, search_round, search_state, IsPositionAt, AreTakesOf}
use Rattle.branch_bound.proofs.Searches.{IsBehind}
use Rattle.branch_bound.proofs.search.+proving.Given as goal

abbrev pub decreases-prove : goal.decreases-prove
decreases-prove g l = 3 * (l.steps.now.limit - l.steps.now.used)

abbrev pub decreases-prove_takes : goal.decreases-prove_takes
decreases-prove_takes g l = 3 * (l.steps.now.limit - l.steps.now.used) + 2

abbrev pub decreases-prove_take : goal.decreases-prove_take
decreases-prove_take g l = 3 * (l.steps.now.limit - l.steps.now.used) + 1

abbrev pub invariant-prove_takes-taking : goal.invariant-prove_takes-taking
invariant-prove_takes-taking g l = record {
  takes : AreTakesOf (search_problem l.input) (search_round l.input) (search_state l.input g.C.CountySet.test l.position.state) (codes_of_sets l.input.graph.now.ordered.now.order g.C.CountySet.test (take l.index l.group-items)) l.takes.items;
  lists : AreListsOf g.C.CountySet.test (problem_at l.input.graph.now.ordered.now) (length l.input.graph.now.ordered.now.order) l.lists;
  more : l.fn.steps.used ≤ l.steps.used;
  limit : l.steps.limit ≡ l.fn.steps.limit;
}

abbrev pub decreases-prove-branching : goal.decreases-prove-branching
decreases-prove-branching g l = l.steps.limit - l.steps.used

abbrev pub invariant-prove-branching : goal.invariant-prove-branching
invariant-prove-branching g l = record {
  at : IsPositionAt g.C.CountySet.test l.input (search_state l.input g.C.CountySet.test l.position.state) l.position;
  behind : IsBehind (search_problem l.input) (search_round l.input) (search_state l.input g.C.CountySet.test l.fn.position.state) (search_state l.input g.C.CountySet.test l.position.state) l.branches.items;
  lists : AreListsOf g.C.CountySet.test (problem_at l.input.graph.now.ordered.now) (length l.input.graph.now.ordered.now.order) l.lists;
  more : l.fn.steps.used ≤ l.steps.used;
  limit : l.steps.limit ≡ l.fn.steps.limit;
}
