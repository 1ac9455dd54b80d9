use Rattle.std.proofs.Common.{◌≡◌, true, not, length, rules}
use Rattle.county_problem.specs.OrderedValue.{problem_at}
use Rattle.state_groups.specs.StateValue.{state_of}
use Rattle.state_groups.proofs.Keeping.{none_fits_ok, none_grows}
use Rattle.state_groups.proofs.passing.is_passed_over.Goals as goal

pub returns : goal.returns
returns g c =
    let test = g.C.CountySet.test in
    let input = c.args.input.now in
    let it = c.args.test.now in
    none_fits_ok it.format (problem_at input.graph.now.ordered.now) (length input.graph.now.ordered.now.order) input.limit it.exact (state_of test it.state.now) (test c.args.growth.now.set) (test c.args.growth.now.free) c.strands.result c.strands.ensures

pub returns-then-not-may_grow : goal.returns-then-not-may_grow
returns-then-not-may_grow g c =
    let test = g.C.CountySet.test in
    let p = problem_at c.args.input.now.graph.now.ordered.now in
    let n = length c.args.input.now.graph.now.ordered.now.order in
    let input = c.args.input.now in
    let it = c.args.test.now in
    let growth = c.args.growth.now in
    let none : not c.may_grow.result ≡ true = search rules in
    λ yes keep d.
    none_grows it.format p n input.limit it.exact (state_of test it.state.now) keep (test growth.set) (test growth.free) (test c.in_ok-reach.reach) c.may_grow.result d none c.in_ok-reach.ensures.all c.may_grow.ensures
