use Rattle.std.proofs.Common.{◌≡◌, ◌∙◌, ◌+◌, drop, ap, sym, arith}
use Rattle.std.proofs.lemmas.List.{at_drop_more, at_drop_all}
use Rattle.grouping_laws.specs.Grouping.{seats_of}
use Rattle.county_problem.proofs.judging.total_seats.Goals as goal

pub loop-group-preserved : goal.loop-group-preserved
loop-group-preserved c =
    let gs = c.args.groups.now in
    let i = c.loop-group.group-index in
    let group = c.group-item.result in
    let rest = seats_of (drop (i + 1) gs) in
    let more : seats_of (drop i gs) ≡ group.seats + rest = at_drop_more seats_of gs i group c.loop-group-test.true ∙ ap (λ s. s.seats + rest) (sym c.group-item.is) in
    record {
      left = omega (arith, more, c.loop-group.invariant.left, c.from-seats.ensures);
      small = omega arith;
    }

pub returns : goal.returns
returns c = omega (arith, at_drop_all seats_of c.args.groups.now c.loop-group.group-index c.loop-group-test.false, c.loop-group.invariant.left)
