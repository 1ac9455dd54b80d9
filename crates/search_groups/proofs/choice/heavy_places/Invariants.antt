use Rattle.std.proofs.Common.{◌≡◌, ℕ, true}
use Rattle.search_groups.proofs.choice.heavy_places.Given as goal

abbrev pub invariant-loop-place : goal.invariant-loop-place
invariant-loop-place g l = (x : ℕ) → g.C.CountySet.test l.heavy x ≡ true → g.C.CountySet.test l.fn.set x ≡ true
