use Rattle.std.proofs.Common.{◌≡◌, ℕ, ◌<◌, true, length}
use Rattle.worked_calls.proofs.regions.show_part.Given as goal

abbrev pub invariant-loop-place : goal.invariant-loop-place
invariant-loop-place g l = (x : ℕ) → g.C.CountySet.test l.region x ≡ true → x < length l.ordered.order
