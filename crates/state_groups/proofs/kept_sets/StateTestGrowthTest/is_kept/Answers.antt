use Rattle.std.proofs.Common.{length}
use Rattle.std.proofs.lemmas.Result.{IfOk-weaker}
use Rattle.county_problem.specs.OrderedValue.{problem_at}
use Rattle.state_groups.specs.StateValue.{state_of}
use Rattle.state_groups.proofs.Keeping.{kept_test}
use Rattle.state_groups.proofs.kept_sets.StateTestGrowthTest.is_kept.Goals as goal

pub returns : goal.returns
returns g c =
    let test = g.C.CountySet.test in
    let p = problem_at c.args.input.now.graph.now.ordered.now in
    let n = length c.args.input.now.graph.now.ordered.now.order in
    let growth = c.args.growth.now in
    let it = c.args.self.now in
    record {
      kept = IfOk-weaker c.fits_and_is_asked.result _ _
          (λ kept h keep d. kept_test it.format p n c.args.input.now.limit it.exact (state_of test it.state.now) keep (test growth.set) (test growth.free) kept d c.requires.growth.growth c.requires.whole h)
          c.fits_and_is_asked.ensures;
    }
