use Rattle.std.proofs.Common.{length, arith}
use Rattle.county_problem.specs.OrderedValue.{problem_at}
use Rattle.connected_laws.proofs.Listing.{stepped_leaf}
use Rattle.connected_sets.proofs.growing.end_growth.Goals as goal

pub returns-in_err-put_if_kept-clause-steps : goal.returns-in_err-put_if_kept-clause-steps
returns-in_err-put_if_kept-clause-steps g c =
    let test = g.C.CountySet.test in
    let p = problem_at c.args.input.now.graph.now.ordered.now in
    let n = length c.args.input.now.graph.now.ordered.now.order in
    stepped_leaf p n c.args.input.now.limit (test c.args.growth.set) (test c.args.growth.free) c.args.steps.now.used c.take_step.new.steps.used c.requires.growth.growth c.requires.whole c.in_ok-take_step.ensures.used

pub returns-clause-steps : goal.returns-clause-steps
returns-clause-steps g c =
    let test = g.C.CountySet.test in
    let p = problem_at c.args.input.now.graph.now.ordered.now in
    let n = length c.args.input.now.graph.now.ordered.now.order in
    stepped_leaf p n c.args.input.now.limit (test c.args.growth.set) (test c.args.growth.free) c.args.steps.now.used c.take_step.new.steps.used c.requires.growth.growth c.requires.whole c.in_ok-take_step.ensures.used

pub returns-clause-listed : goal.returns-clause-listed
returns-clause-listed g c = c.in_ok-put_if_kept.ensures.listed

pub returns-clause-counted : goal.returns-clause-counted
returns-clause-counted g c = omega (arith, c.in_ok-put_if_kept.ensures.counted, c.in_ok-take_step.ensures.used)

pub returns-clause-stopped : goal.returns-clause-stopped
returns-clause-stopped g c = λ h. cc
