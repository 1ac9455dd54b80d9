use Rattle.std.proofs.Common.{◌≡◌, ◌++◌, drop}
use Rattle.county_codes.proofs.group.copy_groups.Given as goal

abbrev pub invariant-loop-group : goal.invariant-loop-group
invariant-loop-group l = l.copies.items ++ drop l.group-index l.groups ≡ l.groups
