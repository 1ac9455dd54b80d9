use Rattle.std.proofs.Common.{ℕ, ◌<◌, ◌≤◌, length, get_or}
use Rattle.county_codes.specs.declared.group.Group.{Group}
use Rattle.branch_bound.proofs.pieces.is_within.Given as goal

abbrev pub invariant-loop-group : goal.invariant-loop-group
invariant-loop-group l = (k : ℕ) (d : Group) → k < l.group-index → length (get_or l.grouping.groups.items k d).codes ≤ l.limit
