use Rattle.std.proofs.Common.{◌∙◌, sym}
use Rattle.grouping_laws.proofs.PlaceProblem.{order_once}
use Rattle.county_problem.specs.ProblemValue.{problem_of}
use Rattle.bound_proofs.proofs.CountSteps.{county_at, county_nowhere}
use Rattle.bound_proofs.proofs.lines.is_among.Goals as goal

pub returns-in-Some : goal.returns-in-Some
returns-in-Some g c =
    let order = c.args.ordered.now.order in
    let at = c.in-Some.ensures in
    c.has.ensures.test
    ∙ sym (county_at order (order_once (problem_of c.args.ordered.now.problem) order c.places-places.ensures.order) g.C.CountySet.test c.args.set.now c.in-Some.place c.args.code at.0 at.1)

pub returns-in-None : goal.returns-in-None
returns-in-None g c = sym (county_nowhere c.args.ordered.now.order g.C.CountySet.test c.args.set.now c.args.code c.in-None.ensures)
