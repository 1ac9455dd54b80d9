use Rattle.std.proofs.Common.{◌≡◌, ℕ, ◌+◌, ◌*◌, ◌≤◌, length, take, sym, ap, ◌∙◌, subst, arith, ◌⊎◌}
use Rattle.std.proofs.lemmas.Bool.{false≢true}
use Rattle.place_sets.specs.PlaceSets.{places_of}
use Rattle.county_problem.specs.OrderedValue.{problem_at}
use Rattle.search_groups.specs.PartLists.{ArePartGroups, AreListsOf}
use Rattle.search_groups.proofs.PartGroups.{found_in, found_out, part_low}
use Rattle.search_groups.proofs.size_groups.part_groups.Goals as goal
use Rattle.search_groups.proofs.size_groups.part_groups.Goals.{then-has_room+in_ok-put, else-has_room}

pub loop-part-preserved : goal.loop-part-preserved
loop-part-preserved g c =
    let C = g.row.C.Denot in
    let test = g.C.CountySet.test in
    let p = problem_at c.args.graph.now.ordered.now in
    let n = length c.args.graph.now.ordered.now.order in
    let size = c.args.size in
    let parts = c.args.parts.now in
    let i = c.loop-part.part-index in
    let part = c.part-item.result in
    let there = c.loop-part-test.true in
    let at = c.part-item.is in
    let low = c.requires.below in
    let old = c.loop-part.groups.items in
    let inv = c.loop-part.invariant in
    let count : c.size.result ≡ length (places_of n (test part)) = c.size.ensures.count n (part_low C test p n size parts low i part there at) in
    let Room : ℕ → Type 0 = λ z. (z ≡ size) ⊎ (2 * size ≤ z) in
    elim c.if-has_room.branch [
      | then-has_room+in_ok-put w ↦
          let room = subst Room count (c.has_room.ensures.0 w.if-has_room.true) in
          let found = found_in C test p n size parts low i part there at c.requires.apart room old w.put.new.groups.items w.in_ok-put.ensures.put inv.groups in
          record {
            groups = subst (λ z. ArePartGroups test p n size (take (i + 1) parts) z) (sym (ap (λ z. z.items) w.groups-is)) found;
            lists = subst (AreListsOf test p n) (sym w.lists-is) w.in_ok-put.ensures.lists;
            more = omega (arith, ap (λ z. z.used) w.steps-is, w.in_ok-put.ensures.more, inv.more);
            limit = ap (λ z. z.limit) w.steps-is ∙ (w.in_ok-put.ensures.limit ∙ inv.limit);
          }
      | else-has_room w ↦
          let found = found_out C test p n size parts low i part there at old (λ r. false≢true (sym w.if-has_room.false ∙ c.has_room.ensures.1 (subst Room (sym count) r))) inv.groups in
          record {
            groups = subst (λ z. ArePartGroups test p n size (take (i + 1) parts) z) (sym (ap (λ z. z.items) w.groups-is)) found;
            lists = subst (AreListsOf test p n) (sym w.lists-is) inv.lists;
            more = omega (arith, ap (λ z. z.used) w.steps-is, inv.more);
            limit = ap (λ z. z.limit) w.steps-is ∙ inv.limit;
          }
    ]
