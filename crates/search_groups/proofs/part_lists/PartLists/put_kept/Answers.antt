use Rattle.std.proofs.Common.{◌++◌, All, sym, subst, ap, ◌∙◌}
use Rattle.connected_laws.specs.Listing.{AreBelow, lists_of}
use Rattle.search_groups.specs.PartLists.{IsPartList}
use Rattle.search_groups.proofs.PartSteps.{put_list, held_at}
use Rattle.search_groups.proofs.part_lists.PartLists.put_kept.Goals as goal

pub returns-in_ok-put_copies-in-Some-find-clause-put : goal.returns-in_ok-put_copies-in-Some-find-clause-put
returns-in_ok-put_copies-in-Some-find-clause-put g c = λ t p n h.
    let C = g.row.C.Denot in
    let test = g.C.CountySet.test in
    let Q = IsPartList test p n in
    let list = c.in-Some-find.list.now in
    let old = c.args.groups.now.items in
    let new = c.put_copies.new.groups.items in
    let bucket = c.in-Some.bucket.now in
    let found = c.in-Some.ensures.lookup.3 in
    let held : All Q bucket.items = held_at (λ s. All Q s.items) c.args.self.now.buckets.items c.deref.result.now c.args.at bucket c.deref.ensures.value found.0 (found.1 bucket) h in
    let copied = c.in_ok-put_copies-in-Some-find.ensures in
    let same = c.deref-in-Some-find.ensures.value in
    put_list C test p n c.args.part.now c.args.size list old new c.in-Some-find.ensures.is_for (c.in-Some-find.ensures.there p n (subst (All Q) (sym c.deref-2.ensures.value) held))
    (copied.lists n ∙ ap (λ z. lists_of n test old ++ lists_of n test z) same)
    (λ low. copied.below n (subst (AreBelow n test) (sym same) low))
