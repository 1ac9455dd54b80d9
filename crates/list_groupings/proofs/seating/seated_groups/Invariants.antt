use Rattle.std.proofs.Common.{◌≡◌, ◌++◌, ℕ, List, drop, map}
use Rattle.grouping_laws.specs.Ranges.{seated}
use Rattle.list_groupings.proofs.seating.seated_groups.Given as goal

abbrev pub invariant-loop-i : goal.invariant-loop-i
invariant-loop-i l = l.groups.items ++ seated (map (λ (g : List ℕ). g) (drop l.i l.sets)) (drop l.i l.seats) ≡ seated l.sets l.seats
