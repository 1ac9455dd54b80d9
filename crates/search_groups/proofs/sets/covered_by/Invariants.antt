use Rattle.std.proofs.Common.{◌≡◌, ℕ, take}
use Rattle.std.specs.List.{list_any}
use Rattle.search_groups.proofs.sets.covered_by.Given as goal

abbrev pub invariant-loop-group : goal.invariant-loop-group
invariant-loop-group g l = (x : ℕ) → g.C.CountySet.test l.covered x ≡ list_any (λ s. g.C.CountySet.test s x) (take l.group-index l.groups)
