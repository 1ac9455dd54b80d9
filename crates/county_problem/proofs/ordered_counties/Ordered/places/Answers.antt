use Rattle.std.proofs.Common.{arith}
use Rattle.county_problem.specs.ProblemValue.{problem_of}
use Rattle.county_problem.proofs.OrderLemmas.{placed_people}
use Rattle.grouping_laws.proofs.PlaceProblem.{places_problem}
use Rattle.county_problem.proofs.ordered_counties.Ordered.places.Goals as goal

pub returns-clause-problem : goal.returns-clause-problem
returns-clause-problem c =
    rw (← c.self.view_is) (places_problem (problem_of c.self.inside.problem.now) c.self.inside.order.items c.self.invariant.is_problem)

pub returns-clause-people : goal.returns-clause-people
returns-clause-people c =
    rw (← c.self.view_is) (omega (arith, c.self.invariant.fits, placed_people c.self.inside.problem.now c.self.inside.order.items c.self.invariant.is_problem c.self.invariant.is_order))
