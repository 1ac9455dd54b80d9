use Rattle.std.proofs.Common.{◌≡◌, ℕ, false, List, length, subst, sym, ap, ◌∙◌, refl, inl}
use Rattle.std.specs.List.{list_all}
use Rattle.grouping_laws.specs.Sets.{contains}
use Rattle.grouping_laws.specs.GroupsFrom.{IsOrder}
use Rattle.grouping_laws.specs.Places.{codes_at}
use Rattle.grouping_laws.proofs.PlaceProblem.{order_once}
use Rattle.place_sets.specs.PlaceSets.{places_of}
use Rattle.county_problem.specs.ProblemValue.{problem_of}
use Rattle.connected_laws.specs.Listing.{lists_of}
use Rattle.connected_laws.proofs.Keys.{map_twice}
use Rattle.certificate_data.specs.RoundValue.{round_of}
use Rattle.certificate_laws.specs.Groups.{AreGroupsOf}
use Rattle.certificate_laws.specs.Places.{IsStateAt, in_codes}
use Rattle.certificate_laws.proofs.PlaceStates.{states_have_codes}
use Rattle.checker_laws.specs.Fault.{WrongCounty}
use Rattle.state_groups.specs.StateValue.{state_of}
use Rattle.state_groups.specs.PlacedValues.{codes_of_sets}
use Rattle.state_groups.proofs.OpenCounties.{groups_by_codes}
use Rattle.state_judge.specs.Candidates.{AreCandidates, AreCandidateSets}
use Rattle.state_judge.proofs.FairLines.{foreign, plain, plain_candidates}
use Rattle.state_judge.proofs.Counting.{steps_of_size}
use Rattle.state_judge.proofs.judging.judge_weights.Goals as goal

pub returns-then-not-are_known-clause-weights : goal.returns-then-not-are_known-clause-weights
returns-then-not-are_known-clause-weights g c =
    let p = problem_of c.args.graph.now.ordered.now.problem in
    let ws = c.args.weights.now in
    let round = c.args.round.now in
    let whole : IsOrder p round.order = subst (IsOrder p) c.requires.order c.requires.graph.order in
    let unknown : list_all (λ w. contains round.order w.county) ws ≡ false = sym (ap (λ (z : List ℕ). list_all (λ w. contains z w.county) ws) c.as_slice-codes.ensures) ∙ (sym c.are_known.ensures ∙ c.if-not-are_known.true) in
    (WrongCounty, refl, inl (refl, foreign p round.order c.args.quota ws whole unknown))

pub weigh_candidates-requires-in-None-clause-groups : goal.weigh_candidates-requires-in-None-clause-groups
weigh_candidates-requires-in-None-clause-groups g c =
    let test = g.C.CountySet.test in
    let order = c.args.graph.now.ordered.now.order in
    let p = problem_of c.args.graph.now.ordered.now.problem in
    let t = state_of test c.args.state.now in
    let size = c.args.size in
    let round = round_of c.args.round.now in
    let whole = c.requires.graph.order in
    let sets = c.in_ok-groups-in-None.groups.items in
    let at : IsStateAt order (in_codes order t) t = states_have_codes.there order t (order_once p order whole) c.requires.placed.rest in
    let listed = groups_by_codes p order (plain round) (in_codes order t) t size (lists_of (length order) test sets) c.requires.order whole at c.in_ok-groups-in-None.ensures.groups in
    let are : AreCandidates p round (in_codes order t) size (codes_of_sets order test sets) = plain_candidates p round (in_codes order t) size (codes_of_sets order test sets) (subst (λ z. AreGroupsOf p (plain round) (in_codes order t) size z) (map_twice (codes_at order) (λ (z : g.row.C.Denot). places_of (length order) (test z)) sets) listed) in
    subst (λ (z : List g.row.C.Denot). AreCandidateSets test order p round (in_codes order t) size z) (sym c.deref-in-None-2.ensures.value) (record { below = c.in_ok-groups-in-None.ensures.below; are = are })

pub returns-in_err-groups-in-None-clause-steps : goal.returns-in_err-groups-in-None-clause-steps
returns-in_err-groups-in-None-clause-steps g c =
    let t = state_of g.C.CountySet.test c.args.state.now in
    λ m many.
    steps_of_size (problem_of c.args.graph.now.ordered.now.problem) c.args.graph.now.ordered.now.order c.requires.graph.order t c.requires.placed.rest c.args.size c.args.steps.now.used c.groups_of.new.steps.used m c.in_err-groups-in-None.ensures.steps many

pub returns-clause-steps : goal.returns-clause-steps
returns-clause-steps g c =
    let t = state_of g.C.CountySet.test c.args.state.now in
    λ m many.
    steps_of_size (problem_of c.args.graph.now.ordered.now.problem) c.args.graph.now.ordered.now.order c.requires.graph.order t c.requires.placed.rest c.args.size c.args.steps.now.used c.groups_of.new.steps.used m c.in_ok-groups-in-None.ensures.steps many
