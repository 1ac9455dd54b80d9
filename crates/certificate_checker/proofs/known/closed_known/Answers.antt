use Rattle.std.proofs.Common.{ℕ, ◌≡◌, ◌<◌, true, length, sym, subst}
use Rattle.county_problem.specs.ProblemValue.{problem_of}
use Rattle.certificate_data.specs.RoundValue.{round_of}
use Rattle.certificate_laws.specs.Groups.{IsGroupAt}
use Rattle.state_groups.specs.PlacedValues.{state_at, codes_of_set}
use Rattle.certificate_checker.proofs.Takes.{first_set}
use Rattle.certificate_checker.proofs.KnownPlaces.{first_codes}
use Rattle.certificate_checker.proofs.known.closed_known.Goals as goal

pub closed_position-requires-clause-below : goal.closed_position-requires-clause-below
closed_position-requires-clause-below g c =
    first_set _ (λ set. (x : ℕ) → g.C.CountySet.test set x ≡ true → x < length c.args.input.now.graph.now.ordered.now.order) c.args.left.now _ _ c.in-Some-split_first.ensures.cases c.requires.below

pub closed_position-requires-clause-group : goal.closed_position-requires-clause-group
closed_position-requires-clause-group g c =
    let test = g.C.CountySet.test in
    let input = c.args.input.now in
    let order = input.graph.now.ordered.now.order in
    let p = problem_of input.graph.now.ordered.now.problem in
    let round = round_of input.round.now in
    let at = c.in-Some.position in
    let known = rw c.in-Some.is at c.requires.known in
    let codes = codes_of_set order test c.in-Some-split_first.group.now in
    subst (λ z. (x : ℕ) × IsGroupAt p round z x at.size codes) (sym known.1.is)
    (first_codes _ order test (λ k. (x : ℕ) × IsGroupAt p round (state_at order test c.args.state.now) x at.size k) c.args.left.now _ _ c.in-Some-split_first.ensures.cases (c.requires.groups at c.in-Some.is))
