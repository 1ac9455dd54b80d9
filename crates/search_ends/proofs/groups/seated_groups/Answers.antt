use Rattle.std.proofs.Common.{◌<◌, get_or, refl, length, arith}
use Rattle.grouping_laws.specs.Ranges.{seated}
use Rattle.state_groups.specs.PlacedValues.{codes_of_set, codes_of_sets}
use Rattle.search_ends.proofs.GroupLemmas.{seated_more, seated_end, numbers_more}
use Rattle.search_ends.proofs.groups.seated_groups.Goals as goal

pub loop-i-preserved : goal.loop-i-preserved
loop-i-preserved g c =
    let test = g.C.CountySet.test in
    let order = c.args.ordered.now.order in
    let sets = c.args.sets.now in
    let seats = c.args.seats.now in
    let i = c.loop-i.i in
    let inside : i < length sets = c.loop-i-test.true in
    record {
      groups = seated_more (codes_of_set order test) sets seats c.loop-i.groups.items c.push.new.self.items (seated (codes_of_sets order test sets) seats) i c.index-sets-i.result (get_or seats i 0) c.in_ok-group_of.field-0 inside (omega (arith, c.requires.each)) c.index-sets-i.is refl c.in_ok-push.ensures.items c.in_ok-group_of.ensures.value c.loop-i.invariant.groups;
      numbers = numbers_more c.loop-i.groups.items c.push.new.self.items c.in_ok-group_of.field-0 c.in_ok-push.ensures.items c.in_ok-group_of.ensures.numbers c.loop-i.invariant.numbers;
    }

pub returns-clause-groups : goal.returns-clause-groups
returns-clause-groups g c =
    let test = g.C.CountySet.test in
    let order = c.args.ordered.now.order in
    seated_end (codes_of_set order test) c.args.sets.now c.args.seats.now c.loop-i.groups.items (seated (codes_of_sets order test c.args.sets.now) c.args.seats.now) c.loop-i.i (omega (arith, c.loop-i-test.false)) c.loop-i.invariant.groups
