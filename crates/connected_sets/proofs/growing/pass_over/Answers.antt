use Rattle.std.proofs.Common.{length, refl}
use Rattle.county_problem.specs.OrderedValue.{problem_at}
use Rattle.connected_laws.proofs.Listing.{stepped_none}
use Rattle.connected_sets.proofs.Passed.{stepped_passed}
use Rattle.connected_sets.proofs.growing.pass_over.Goals as goal

pub returns-in_ok-take_step-clause-steps : goal.returns-in_ok-take_step-clause-steps
returns-in_ok-take_step-clause-steps g c =
    let test = g.C.CountySet.test in
    let p = problem_at c.args.input.now.graph.now.ordered.now in
    let n = length c.args.input.now.graph.now.ordered.now.order in
    stepped_passed p n c.args.input.now.limit (test c.args.growth.now.set) (test c.args.growth.now.free) c.args.steps.now.used c.take_step.new.steps.used c.requires.growth c.in_ok-take_step.ensures.used

pub returns-else-COUNTS_PASSED-clause-steps : goal.returns-else-COUNTS_PASSED-clause-steps
returns-else-COUNTS_PASSED-clause-steps g c =
    let test = g.C.CountySet.test in
    let p = problem_at c.args.input.now.graph.now.ordered.now in
    let n = length c.args.input.now.graph.now.ordered.now.order in
    stepped_none p n c.args.input.now.limit (test c.args.growth.now.set) (test c.args.growth.now.free) c.args.steps.now.used c.args.steps.now.used refl
