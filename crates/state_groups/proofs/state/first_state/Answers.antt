use Rattle.std.proofs.Common.{◌≡◌, length, ap, ◌∙◌}
use Rattle.std.proofs.lemmas.Result.{IfOk-weaker}
use Rattle.county_problem.specs.ProblemValue.{problem_of}
use Rattle.county_problem.specs.OrderedValue.{at_places}
use Rattle.state_groups.specs.declared.state.State.{State as StateHeld}
use Rattle.certificate_laws.specs.State.{empty_state}
use Rattle.state_groups.specs.StateValue.{state_of}
use Rattle.certificate_laws.specs.Places.{in_codes}
use Rattle.certificate_laws.proofs.PlaceStates.{states_have_codes}
use Rattle.state_groups.specs.PlacedValues.{state_at, IsPlaced}
use Rattle.state_groups.proofs.PlacedLemmas.{both_ok, first_placed}
use Rattle.state_groups.proofs.state.first_state.Goals as goal

pub returns-clause-value : goal.returns-clause-value
returns-clause-value g c =
    let test = g.C.CountySet.test in
    let order = c.args.ordered.now.order in
    let p = problem_of c.args.ordered.now.problem in
    IfOk-weaker c.empty_by_places.result
    (λ (s : StateHeld g.row.C.Denot). state_of test s ≡ empty_state (at_places p order))
    (λ (s : StateHeld g.row.C.Denot). state_at order test s ≡ empty_state p)
    (λ s e. ap (in_codes order) e ∙ states_have_codes.empty p order c.places-places.ensures.order) c.empty_by_places.ensures.value

pub returns-clause-placed : goal.returns-clause-placed
returns-clause-placed g c =
    let test = g.C.CountySet.test in
    let order = c.args.ordered.now.order in
    let p = problem_of c.args.ordered.now.problem in
    both_ok c.empty_by_places.result
    (λ (s : StateHeld g.row.C.Denot). state_of test s ≡ empty_state (at_places p order))
    (λ (s : StateHeld g.row.C.Denot). length s.least.items ≡ length order)
    (λ (s : StateHeld g.row.C.Denot). IsPlaced (length order) test s)
    (λ s e k. first_placed g.row.C.Denot test p order s e k) c.empty_by_places.ensures.value c.empty_by_places.ensures.places
