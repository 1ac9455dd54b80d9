use Rattle.std.proofs.Common.{arith}
use Rattle.county_problem.proofs.CodesInOrder.{at_no_place}
use Rattle.county_problem.proofs.ordered_counties.Ordered.place_of.Goals as goal

pub returns : goal.returns
returns c = at_no_place c.args.self.now.order c.args.code (λ k l e. c.loop-place.invariant k (omega (arith, l, c.loop-place-test.false, c.places-place-end.ensures.value)) e)
