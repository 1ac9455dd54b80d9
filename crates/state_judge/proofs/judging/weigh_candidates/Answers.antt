use Rattle.std.proofs.Common.{refl, inr, arith}
use Rattle.grouping_laws.proofs.PlaceProblem.{order_once}
use Rattle.county_problem.specs.ProblemValue.{problem_of}
use Rattle.certificate_data.specs.RoundValue.{round_of}
use Rattle.certificate_laws.specs.Places.{IsStateAt, in_codes}
use Rattle.certificate_laws.proofs.PlaceStates.{states_have_codes}
use Rattle.checker_laws.specs.Fault.{LightGroup}
use Rattle.state_groups.specs.StateValue.{state_of}
use Rattle.state_judge.proofs.FairLines.{fair, light}
use Rattle.state_judge.proofs.judging.weigh_candidates.Goals as goal

pub returns-then-branch-clause-weights : goal.returns-then-branch-clause-weights
returns-then-branch-clause-weights g c =
    let test = g.C.CountySet.test in
    let order = c.args.graph.now.ordered.now.order in
    let p = problem_of c.args.graph.now.ordered.now.problem in
    let t = state_of test c.args.state.now in
    let at : IsStateAt order (in_codes order t) t = states_have_codes.there order t (order_once p order c.requires.graph.order) c.requires.placed.rest in
    let found = c.in_ok-has_light_group.ensures.light c.if-branch.true in (
      LightGroup,
      refl,
      inr (
        refl,
        light test p (round_of c.args.round.now) (in_codes order t) t c.args.size c.args.quota c.args.weights.now c.args.groups.now order c.args.table.now c.requires.order c.requires.graph.order at c.requires.groups.are c.requires.known c.requires.table
            (found.0, found.1, found.2, omega (arith, found.3, c.from.ensures)),
      ),
    )

pub returns-clause-weights : goal.returns-clause-weights
returns-clause-weights g c =
    let test = g.C.CountySet.test in
    let order = c.args.graph.now.ordered.now.order in
    let p = problem_of c.args.graph.now.ordered.now.problem in
    let t = state_of test c.args.state.now in
    let at : IsStateAt order (in_codes order t) t = states_have_codes.there order t (order_once p order c.requires.graph.order) c.requires.placed.rest in (
      fair test p (round_of c.args.round.now) (in_codes order t) t c.args.size c.args.quota c.args.weights.now c.args.groups.now order c.args.table.now c.requires.order c.requires.graph.order at c.requires.groups.are c.requires.quota c.requires.known c.requires.table
          (λ k d less kept. omega (arith, c.in_ok-has_light_group.ensures.heavy c.if-branch.false k d less kept, c.from.ensures)),
      c.in_ok-open_weight.ensures,
    )
