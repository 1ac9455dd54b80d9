use Rattle.std.proofs.Common.{sym, subst, All}
use Rattle.search_groups.specs.PartLists.{IsPartList}
use Rattle.search_groups.proofs.PartSteps.{one_more, held_changed}
use Rattle.search_groups.proofs.part_lists.PartLists.keep.Goals as goal

pub returns-in_err-make_bucket : goal.returns-in_err-make_bucket
returns-in_err-make_bucket g c = λ p n is h. c.make_bucket.ensures.lists p n (c.make_room.ensures.lists p n h)

pub returns-in_err-push : goal.returns-in_err-push
returns-in_err-push g c = λ p n is h.
    let P = IsPartList g.C.CountySet.test p n in
    let kept = c.make_bucket.ensures.lists p n (c.make_room.ensures.lists p n h) in
    held_changed (λ bucket. bucket.items) P c.make_bucket.new.self.buckets.items c.args.at c.index_mut-bucket.result.now c.push.new.self c.index_mut-bucket.ensures.value c.in_ok-make_bucket.ensures.bucket (subst (All P) (sym c.in_err-push.ensures.items)) kept

pub returns : goal.returns
returns g c = λ p n is h.
    let P = IsPartList g.C.CountySet.test p n in
    let kept = c.make_bucket.ensures.lists p n (c.make_room.ensures.lists p n h) in
    held_changed (λ bucket. bucket.items) P c.make_bucket.new.self.buckets.items c.args.at c.index_mut-bucket.result.now c.push.new.self c.index_mut-bucket.ensures.value c.in_ok-make_bucket.ensures.bucket (one_more P c.index_mut-bucket.result.now.items c.push.new.self.items c.args.list is c.in_ok-push.ensures.items) kept
