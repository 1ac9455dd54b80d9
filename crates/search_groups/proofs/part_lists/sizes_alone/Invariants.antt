use Rattle.std.proofs.Common.{◌≡◌, ℕ, ◌<◌, cond, length, get_or}
use Rattle.search_groups.proofs.part_lists.sizes_alone.Given as goal

abbrev pub invariant-loop-place : goal.invariant-loop-place
invariant-loop-place g l = record {
  count : length l.least.items ≡ l.place;
  sizes : (x : ℕ) → x < l.place → get_or l.least.items x 0 ≡ cond (g.C.CountySet.test l.part x) l.size 0;
}
