use Rattle.std.proofs.Common.{◌≡◌, ℕ, ◌||◌, drop}
use Rattle.std.specs.BTreeSet.{contains as set_contains}
use Rattle.std.specs.Ordering.{nat_cmp}
use Rattle.grouping_laws.specs.Sets.{contains}
use Rattle.adjacency_reader.proofs.pairs.code_set.Given as goal

abbrev pub invariant-loop-code : goal.invariant-loop-code
invariant-loop-code l = (c : ℕ) → (set_contains nat_cmp l.set c || contains (drop l.code-index l.codes) c) ≡ contains l.codes c
