use Rattle.std.proofs.Common.{◌≡◌, ◌≤◌, ◌+◌, ◌*◌, ◌-◌, take}
use Rattle.state_groups.specs.PlacedValues.{codes_of_sets}
use Rattle.branch_bound.specs.Searching.{search_problem, search_round, search_state, AreTakesOf}
use Rattle.branch_bound.specs.PlainRounds.{IsStateOf}
use Rattle.branch_bound.proofs.Searches.{IsBehind}
use Rattle.branch_bound.proofs.plain_search.+proving_plain.Given as goal

abbrev pub decreases-prove_plain : goal.decreases-prove_plain
decreases-prove_plain g l = 3 * (l.steps.now.limit - l.steps.now.used)

abbrev pub decreases-prove_plain_takes : goal.decreases-prove_plain_takes
decreases-prove_plain_takes g l = 3 * (l.steps.now.limit - l.steps.now.used) + 2

abbrev pub decreases-prove_plain_take : goal.decreases-prove_plain_take
decreases-prove_plain_take g l = 3 * (l.steps.now.limit - l.steps.now.used) + 1

abbrev pub invariant-prove_plain_takes-taking : goal.invariant-prove_plain_takes-taking
invariant-prove_plain_takes-taking g l = record {
  takes : AreTakesOf (search_problem l.input) (search_round l.input) (search_state l.input g.C.CountySet.test l.state) (codes_of_sets l.input.graph.now.ordered.now.order g.C.CountySet.test (take l.index l.group-items)) l.takes.items;
  more : l.fn.steps.used ≤ l.steps.used;
  limit : l.steps.limit ≡ l.fn.steps.limit;
}

abbrev pub decreases-prove_plain-branching : goal.decreases-prove_plain-branching
decreases-prove_plain-branching g l = l.steps.limit - l.steps.used

abbrev pub invariant-prove_plain-branching : goal.invariant-prove_plain-branching
invariant-prove_plain-branching g l = record {
  at : IsStateOf g.C.CountySet.test l.input l.state;
  behind : IsBehind (search_problem l.input) (search_round l.input) (search_state l.input g.C.CountySet.test l.fn.state) (search_state l.input g.C.CountySet.test l.state) l.branches.items;
  more : l.fn.steps.used ≤ l.steps.used;
  limit : l.steps.limit ≡ l.fn.steps.limit;
}
