use Rattle.std.proofs.Common.{arith}
use Rattle.place_sets.specs.PlaceSets.{places_of}
use Rattle.place_sets.proofs.PlaceSets.{places_same}
use Rattle.connected_laws.specs.Listing.{lists_of}
use Rattle.search_groups.proofs.PartSteps.{put_more, put_all, below_more}
use Rattle.search_groups.proofs.part_lists.put_copies.Goals as goal

pub loop-set-preserved : goal.loop-set-preserved
loop-set-preserved g c =
    let C = g.row.C.Denot in
    let test = g.C.CountySet.test in
    let olds = c.loop-set.groups.items in
    let news = c.push.new.self.items in
    let sets = c.args.sets.now in
    let i = c.loop-set.set-index in
    let item = c.set-item.result in
    let copy = c.in_ok-copy.field-0 in
    let same = c.in_ok-copy.ensures.places in
    record {
      lists = λ n. put_more (λ (s : C). places_of n (test s)) (lists_of n test c.args.groups.now.items) olds sets news i item copy c.loop-set-test.true c.set-item.is c.in_ok-push.ensures.items (places_same n (test item) (test copy) same) (c.loop-set.invariant.lists n);
      below = λ n low old. below_more C test n sets olds news i item copy c.loop-set-test.true c.set-item.is c.in_ok-push.ensures.items same low (c.loop-set.invariant.below n low old);
    }

pub returns-clause-lists : goal.returns-clause-lists
returns-clause-lists g c =
    let C = g.row.C.Denot in
    let test = g.C.CountySet.test in
    λ n. put_all (λ (s : C). places_of n (test s)) (lists_of n test c.args.groups.now.items) c.loop-set.groups.items c.args.sets.now c.loop-set.set-index (omega (arith, c.loop-set-test.false)) (c.loop-set.invariant.lists n)

pub returns-clause-below : goal.returns-clause-below
returns-clause-below g c = c.loop-set.invariant.below
