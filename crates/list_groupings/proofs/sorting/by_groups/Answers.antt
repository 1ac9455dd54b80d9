use Rattle.std.proofs.Common.{◌≡◌, length, ◌∙◌, arith, rules}
use Rattle.std.specs.Ordering.{nat_cmp}
use Rattle.list_groupings.proofs.SortingLemmas.{all_met}
use Rattle.list_groupings.proofs.sorting.by_groups.Goals as goal

pub returns : goal.returns
returns c =
    let e : c.cmp.result ≡ nat_cmp (length c.args.a.now) (length c.args.b.now) = search rules in
    e ∙ (all_met c.args.a.now c.args.b.now c.loop-i.i (omega arith) (omega arith) c.loop-i.invariant.inside ∙ c.loop-i.invariant.same)
