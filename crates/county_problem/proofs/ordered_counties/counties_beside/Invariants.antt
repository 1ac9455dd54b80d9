use Rattle.std.proofs.Common.{◌≡◌, ℕ, ◌||◌, drop}
use Rattle.grouping_laws.specs.Sets.{contains}
use Rattle.county_problem.specs.ProblemValue.{names_both}
use Rattle.county_problem.proofs.ordered_counties.counties_beside.Given as goal

abbrev pub invariant-loop-pair : goal.invariant-loop-pair
invariant-loop-pair l = (c : ℕ)
    → (contains l.beside.items c || names_both (drop l.pair-index l.pairs) l.from c) ≡ names_both l.pairs l.from c
