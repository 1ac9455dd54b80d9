use Rattle.std.proofs.Common.{◌≡◌, ◌≤◌, ◌<◌, ℕ, drop, length}
use Rattle.std.specs.Prelude.{fold, max}
use Rattle.std.specs.List.{slice_index_or}
use Rattle.county_codes.specs.Limits.{most_counties}
use Rattle.county_codes.specs.declared.group.Group.{Group}
use Rattle.branch_bound.specs.Resuming.{longest}
use Rattle.branch_bound.proofs.solving.largest_size.Given as goal

abbrev pub invariant-loop-group : goal.invariant-loop-group
invariant-loop-group l = record {
  small : l.largest ≤ most_counties;
  large : (k : ℕ) (d : Group) → k < l.group-index → length (slice_index_or l.grouping.groups.items k d).codes ≤ l.largest;
  left : fold (λ most m. max most (length m.codes)) (max 1 l.largest) (drop l.group-index l.grouping.groups.items) ≡ longest l.grouping.groups.items;
}
