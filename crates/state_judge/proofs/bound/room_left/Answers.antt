use Rattle.std.proofs.Common.{◌≡◌, ◌-◌, ◌≤◌, length, ◌∙◌, arith}
use Rattle.std.proofs.lemmas.Result.{IfOk-weaker}
use Rattle.county_codes.specs.Limits.{most_counties}
use Rattle.grouping_laws.proofs.PlaceProblem.{order_once}
use Rattle.county_problem.specs.ProblemValue.{problem_of}
use Rattle.county_problem.specs.OrderedValue.{problem_at}
use Rattle.certificate_laws.specs.BoundLines.{room_at}
use Rattle.state_groups.specs.StateValue.{state_of}
use Rattle.certificate_laws.specs.Places.{IsStateAt, in_codes}
use Rattle.certificate_laws.proofs.PlaceStates.{states_have_codes}
use Rattle.state_groups.proofs.OpenCounties.{room_same, room_few}
use Rattle.state_judge.proofs.bound.room_left.Goals as goal

pub returns-clause-value : goal.returns-clause-value
returns-clause-value g c =
    let test = g.C.CountySet.test in
    let order = c.args.ordered.now.order in
    let p = problem_of c.args.ordered.now.problem in
    let t = state_of test c.args.state.now in
    let whole = c.places-places.ensures.order in
    let at : IsStateAt order (in_codes order t) t = states_have_codes.there order t (order_once p order whole) c.requires.placed.rest in
    IfOk-weaker c.room.result (λ left. left ≡ room_at (problem_at c.args.ordered.now) t c.args.size c.args.used) (λ left. left ≡ room_at p (in_codes order t) c.args.size c.args.used)
    (λ left e. e ∙ room_same p order (in_codes order t) t c.args.size c.args.used c.problem-problem.ensures.law whole at) c.room.ensures

pub returns-clause-few : goal.returns-clause-few
returns-clause-few g c =
    let test = g.C.CountySet.test in
    let order = c.args.ordered.now.order in
    let p = problem_of c.args.ordered.now.problem in
    let t = state_of test c.args.state.now in
    let whole = c.places-places.ensures.order in
    let at : IsStateAt order (in_codes order t) t = states_have_codes.there order t (order_once p order whole) c.requires.placed.rest in
    let small : length order ≤ most_counties = omega (arith, c.places-places.ensures.value, c.places-places.ensures.few) in
    let law = c.problem-problem.ensures.law in
    IfOk-weaker c.room.result (λ left. left ≡ room_at (problem_at c.args.ordered.now) t c.args.size c.args.used) (λ left. left ≤ most_counties - c.args.used)
    (λ left e. omega (arith, e, room_same p order (in_codes order t) t c.args.size c.args.used law whole at, room_few p order (in_codes order t) t c.args.size c.args.used law whole at small)) c.room.ensures
