use Rattle.std.proofs.Common.{◌≡◌, List, ℕ, length, ap, arith}
use Rattle.list_groupings.proofs.ShortfallLemmas.{counts_more, is_size, no_size}
use Rattle.list_groupings.proofs.shortfall.groups_of_size.Goals.{then-as_slice-from, else-as_slice-from}
use Rattle.list_groupings.proofs.shortfall.groups_of_size.Goals as goal

pub loop-group-preserved : goal.loop-group-preserved
loop-group-preserved c =
    let g = c.group-item.result in
    let i = c.loop-group.group-index in
    let more = counts_more c.args.groups.now i c.args.size g c.group-item.is c.loop-group-test.true in
    let len : length c.as_slice.result.now ≡ length g = ap (λ (l : List ℕ). length l) c.as_slice.ensures in
    elim c.if-as_slice-from.branch [
      | then-as_slice-from w ↦ record { sum = omega (arith, w.count-is, c.loop-group.invariant.sum, more, is_size (length g) c.args.size (omega (arith, len))); few = omega (arith, w.count-is, c.loop-group.invariant.few) }
      | else-as_slice-from w ↦ record { sum = omega (arith, w.count-is, c.loop-group.invariant.sum, more, no_size (length g) c.args.size (λ e. omega (arith, len, e))); few = omega (arith, w.count-is, c.loop-group.invariant.few) }
    ]
