use Rattle.std.proofs.Common.{◌≡◌, ℕ, ◌&&◌, ◌||◌, nat_lt, drop}
use Rattle.std.specs.BTreeSet.{contains}
use Rattle.county_problem.specs.ProblemValue.{names_both}
use Rattle.adjacency_reader.specs.Pairs.{by_codes}
use Rattle.adjacency_reader.proofs.pairs.pair_set.Given as goal

abbrev pub invariant-loop-a : goal.invariant-loop-a
invariant-loop-a l = (x y : ℕ) → (contains by_codes l.pairs (x, y) || (nat_lt x y && names_both (drop l.a-index l.rows) x y)) ≡ (nat_lt x y && names_both l.rows x y)
