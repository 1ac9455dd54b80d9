use Rattle.std.proofs.Common.{◌∙◌}
use Rattle.grouping_laws.proofs.PlaceProblem.{order_once}
use Rattle.county_problem.specs.ProblemValue.{problem_of}
use Rattle.state_groups.specs.StateValue.{state_of}
use Rattle.certificate_laws.specs.Places.{IsStateAt, in_codes}
use Rattle.certificate_laws.proofs.PlaceStates.{states_have_codes}
use Rattle.state_judge.specs.Weights.{county_weight}
use Rattle.state_judge.proofs.FairLines.{open_sum}
use Rattle.state_judge.proofs.judging.open_weight.Goals as goal

pub returns : goal.returns
returns g c =
    let test = g.C.CountySet.test in
    let order = c.args.ordered.now.order in
    let p = problem_of c.args.ordered.now.problem in
    let t = state_of test c.args.state.now in
    let whole = c.places-places.ensures.order in
    let at : IsStateAt order (in_codes order t) t = states_have_codes.there order t (order_once p order whole) c.requires.placed.rest in
    c.weight_in.ensures ∙ open_sum (county_weight c.args.weights.now) p order c.args.table.now (in_codes order t) t c.args.size (test c.in_ok-region.region) c.problem-problem.ensures.law whole at c.requires.table c.in_ok-region.ensures
