use Rattle.std.proofs.Common.{◌≡◌, ◌≤◌, drop, length}
use Rattle.std.specs.Cmp.Lexicographic.{slice_cmp}
use Rattle.grouping_laws.specs.Grouping.{sets_of}
use Rattle.list_groupings.specs.Keys.{set_order}
use Rattle.list_groupings.proofs.sorting.by_groups.Given as goal

abbrev pub invariant-loop-i : goal.invariant-loop-i
invariant-loop-i l = record {
  same : slice_cmp set_order (sets_of (drop l.i l.a)) (sets_of (drop l.i l.b)) ≡ slice_cmp set_order (sets_of l.a) (sets_of l.b);
  inside : l.i ≤ length l.b;
}
