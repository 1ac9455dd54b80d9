use Rattle.std.proofs.Common.{◌≡◌, ℕ, take}
use Rattle.std.specs.List.{list_any}
use Rattle.bound_proofs.proofs.lines.places_in.Given as goal

abbrev pub invariant-loop-group : goal.invariant-loop-group
invariant-loop-group g l = (x : ℕ) → g.C.CountySet.test l.places x ≡ list_any (λ s. g.C.CountySet.test s x) (take l.group-index l.groups)
