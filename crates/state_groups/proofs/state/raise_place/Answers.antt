use Rattle.std.proofs.Common.{rules, ◌≡◌, ◌+◌, ap, ◌∙◌}
use Rattle.std.specs.Vec.{with_item}
use Rattle.county_problem.specs.ProblemValue.{problem_of}
use Rattle.grouping_laws.proofs.PlaceProblem.{order_once}
use Rattle.certificate_laws.specs.State.{raise}
use Rattle.state_groups.specs.StateValue.{state_of}
use Rattle.certificate_laws.specs.Places.{in_codes}
use Rattle.certificate_laws.proofs.PlaceStates.{states_have_codes}
use Rattle.state_groups.proofs.state.raise_place.Goals as goal

pub returns-clause-value : goal.returns-clause-value
returns-clause-value g c =
    let test = g.C.CountySet.test in
    let order = c.args.ordered.now.order in
    let old = c.args.state.now in
    let t = state_of test old in
    let same : state_of test (record { closed = old.closed; rest = old.rest; least = with_item old.least c.from.result (c.args.limit + 1) }) ≡ raise c.args.place c.args.limit t = search rules in
    ap (in_codes order) same ∙ states_have_codes.raised order t c.args.place c.args.limit (order_once (problem_of c.args.ordered.now.problem) order c.places-places.ensures.order) c.requires.place
