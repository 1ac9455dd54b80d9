use Rattle.std.proofs.Common.{◌≡◌, ◌+◌, ◌-◌, ◌*◌, ◌≤◌, nat_le, ◌&&◌, sym, ap, ◌∙◌, subst, arith}
use Rattle.std.proofs.lemmas.Bool.{and_parts, leb-true}
use Rattle.grouping_laws.specs.SeatWindow.{people_bounds}
use Rattle.county_problem.specs.OrderedValue.{problem_at}
use Rattle.state_groups.proofs.SeatWindows.{AreSeatWindows, windows_more, windows_end, windows_all}
use Rattle.state_groups.proofs.windows.seat_windows.Goals as goal

pub returns-then-window-people : goal.returns-then-window-people
returns-then-window-people c =
    let p = problem_at c.args.ordered.now in
    let seats = c.loop-seats.seats in
    let w = c.district_bounds-window.result in
    let e : w ≡ people_bounds p seats = c.district_bounds-window.ensures.value ∙ ap (λ v. people_bounds (problem_at (record c.args.ordered.now { problem = v })) seats) c.problem-problem.ensures.value in
    windows_end p c.places-places.ensures.problem c.args.people c.loop-seats.windows.items seats w e c.if-window-people.true c.loop-seats.invariant

pub loop-seats-preserved : goal.loop-seats-preserved
loop-seats-preserved c =
    let p = problem_at c.args.ordered.now in
    let seats = c.loop-seats.seats in
    let w = c.district_bounds-window.result in
    let e : w ≡ people_bounds p seats = c.district_bounds-window.ensures.value ∙ ap (λ v. people_bounds (problem_at (record c.args.ordered.now { problem = v })) seats) c.problem-problem.ensures.value in
    subst (AreSeatWindows p (seats + 1)) (sym c.in_ok-push.ensures.items) (windows_more p c.places-places.ensures.problem c.loop-seats.windows.items seats w c.loop-seats.auto.seats e c.loop-seats.invariant)

pub returns : goal.returns
returns c =
    let p = problem_at c.args.ordered.now in
    let w = c.tolerance-tolerance.result in
    let range = and_parts (nat_le 1 w.denominator) (nat_le w.denominator 1000 && nat_le (2 * w.numerator) w.denominator) c.tolerance-tolerance.ensures.range in
    let half = leb-true (2 * w.numerator) w.denominator (and_parts (nat_le w.denominator 1000) (nat_le (2 * w.numerator) w.denominator) range.1).1 in
    let value = c.problem-problem.ensures.value in
    let numerator = ap (λ v. (problem_at (record c.args.ordered.now { problem = v })).numerator) value in
    let denominator = ap (λ v. (problem_at (record c.args.ordered.now { problem = v })).denominator) value in
    let chamber = ap (λ v. (problem_at (record c.args.ordered.now { problem = v })).chamber) value in
    let twice : p.denominator ≤ 2 * (p.denominator - p.numerator) = omega (arith, half, c.tolerance-tolerance.ensures.value, numerator, denominator) in
    let few : p.chamber ≤ 1000 = omega (arith, c.chamber-chamber.ensures.value, c.chamber-chamber.ensures.range, chamber) in
    windows_all p c.places-places.ensures.problem c.args.people c.loop-seats.windows.items c.requires twice few (λ people k l s. c.loop-seats.invariant people k (omega (arith, l, c.loop-seats-test.false)) s)
