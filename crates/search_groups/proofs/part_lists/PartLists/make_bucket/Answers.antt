use Rattle.std.proofs.Common.{sym, subst, All}
use Rattle.search_groups.specs.PartLists.{IsPartList}
use Rattle.search_groups.proofs.PartSteps.{one_more, none_held}
use Rattle.search_groups.proofs.part_lists.PartLists.make_bucket.Goals as goal

pub loop-alloc-preserved : goal.loop-alloc-preserved
loop-alloc-preserved g c = record {
  lists = λ p n h.
      one_more (λ bucket. All (IsPartList g.C.CountySet.test p n) bucket.items) c.loop-alloc.self.buckets.items c.push.new.self.items c.new.result
      (subst (λ z. All (IsPartList g.C.CountySet.test p n) z) (sym c.new.ensures.items) (none_held (IsPartList g.C.CountySet.test p n)))
      c.in_ok-push.ensures.items (c.loop-alloc.invariant.lists p n h);
  same = c.loop-alloc.invariant.same;
}

pub returns-in_err-push-clause-lists : goal.returns-in_err-push-clause-lists
returns-in_err-push-clause-lists g c = λ p n h. subst (λ z. All (λ bucket. All (IsPartList g.C.CountySet.test p n) bucket.items) z) (sym c.in_err-push.ensures.items) (c.loop-alloc.invariant.lists p n h)
