use Rattle.std.proofs.Common.{rules, ◌≡◌, ◌≢◌, sym, refl, inl, arith}
use Rattle.county_problem.specs.ProblemValue.{problem_of}
use Rattle.certificate_data.specs.RoundValue.{round_of}
use Rattle.state_groups.specs.StateValue.{state_of}
use Rattle.checker_laws.specs.Fault.{NoLeaf, WrongCounty}
use Rattle.state_judge.proofs.TurnLemmas.{none_open, above_limit, no_county, shut_county, out_of_turn, can_wide, can_plain}
use Rattle.state_judge.proofs.branch.branch_place.Goals as goal

pub returns-in_default-clause-branch : goal.returns-in_default-clause-branch
returns-in_default-clause-branch g c =
    let test = g.C.CountySet.test in
    (NoLeaf, refl, inl (refl, none_open (problem_of c.args.ordered.now.problem) c.args.ordered.now.order c.places-places.ensures.order (state_of test c.args.state.now) c.requires.placed.rest c.args.limit (test c.in_ok-open.open) c.in_ok-open.ensures c.in_default.ensures.least))

pub returns-then-limit-round-clause-branch : goal.returns-then-limit-round-clause-branch
returns-then-limit-round-clause-branch g c =
    let test = g.C.CountySet.test in
    let least = c.in-Some.ensures.least in
    (WrongCounty, refl, above_limit (problem_of c.args.ordered.now.problem) c.args.ordered.now.order c.places-places.ensures.order (state_of test c.args.state.now) c.requires.placed.rest c.args.limit (test c.in_ok-open.open) c.in_ok-open.ensures (round_of c.args.round.now) c.requires.order c.args.county c.in-Some.first least.1 (omega (arith, c.if-limit-round.true)))

pub returns-in_default-place_of-clause-branch : goal.returns-in_default-place_of-clause-branch
returns-in_default-place_of-clause-branch g c =
    let test = g.C.CountySet.test in
    let least = c.in-Some.ensures.least in
    (WrongCounty, refl, no_county (problem_of c.args.ordered.now.problem) c.args.ordered.now.order c.places-places.ensures.order (state_of test c.args.state.now) c.requires.placed.rest c.args.limit (test c.in_ok-open.open) c.in_ok-open.ensures (round_of c.args.round.now) c.requires.order c.args.county c.in-Some.first least.1 c.in_default-place_of.ensures)

pub returns-then-not-has-clause-branch : goal.returns-then-not-has-clause-branch
returns-then-not-has-clause-branch g c =
    let test = g.C.CountySet.test in
    let least = c.in-Some.ensures.least in
    let at = c.in-Some-place_of.ensures in
    (WrongCounty, refl, shut_county (problem_of c.args.ordered.now.problem) c.args.ordered.now.order c.places-places.ensures.order (state_of test c.args.state.now) c.requires.placed.rest c.args.limit (test c.in_ok-open.open) c.in_ok-open.ensures (round_of c.args.round.now) c.requires.order c.args.county c.in-Some.first c.in-Some-place_of.place least.1 at.0 at.1 (sym c.if-not-has.ensures.test))

pub returns-in-Wide-clause-branch : goal.returns-in-Wide-clause-branch
returns-in-Wide-clause-branch g c =
    let test = g.C.CountySet.test in
    let least = c.in-Some.ensures.least in
    let at = c.in-Some-place_of.ensures in
    can_wide (problem_of c.args.ordered.now.problem) c.args.ordered.now.order c.places-places.ensures.order (state_of test c.args.state.now) c.requires.placed.rest c.args.limit (test c.in_ok-open.open) c.in_ok-open.ensures (round_of c.args.round.now) c.requires.order c.args.county c.in-Some-place_of.place at.0 at.1 (sym c.if-not-has.ensures.test) (omega (arith, c.if-limit-round.false)) c.in-Wide.is

pub returns-then-place-first-clause-branch : goal.returns-then-place-first-clause-branch
returns-then-place-first-clause-branch g c =
    let test = g.C.CountySet.test in
    let least = c.in-Some.ensures.least in
    let at = c.in-Some-place_of.ensures in
    let other : c.in-Some-place_of.place ≢ c.in-Some.first = search rules in
    (WrongCounty, refl, out_of_turn (problem_of c.args.ordered.now.problem) c.args.ordered.now.order c.places-places.ensures.order (state_of test c.args.state.now) c.requires.placed.rest c.args.limit (test c.in_ok-open.open) c.in_ok-open.ensures (round_of c.args.round.now) c.requires.order c.args.county c.in-Some.first c.in-Some-place_of.place least.1 (λ x l. least.2 x (omega arith) l) at.0 at.1 c.in-Plain.is other)

pub returns-clause-branch : goal.returns-clause-branch
returns-clause-branch g c =
    let test = g.C.CountySet.test in
    let least = c.in-Some.ensures.least in
    let at = c.in-Some-place_of.ensures in
    let here : c.in-Some-place_of.place ≡ c.in-Some.first = search rules in
    can_plain (problem_of c.args.ordered.now.problem) c.args.ordered.now.order c.places-places.ensures.order (state_of test c.args.state.now) c.requires.placed.rest c.args.limit (test c.in_ok-open.open) c.in_ok-open.ensures (round_of c.args.round.now) c.requires.order c.args.county c.in-Some.first c.in-Some-place_of.place least.1 (λ x l. least.2 x (omega arith) l) at.0 at.1 here (c.requires.limit c.in-Plain.is) c.in-Plain.is
