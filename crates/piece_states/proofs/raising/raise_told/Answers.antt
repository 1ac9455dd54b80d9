use Rattle.std.proofs.Common.{sym, ◌∙◌}
use Rattle.std.proofs.lemmas.Bool.{false≢true}
use Rattle.county_problem.specs.ProblemValue.{problem_of}
use Rattle.piece_states.proofs.AskedLemmas.{rest_told}
use Rattle.piece_states.proofs.raising.raise_told.Goals as goal

pub returns-then-not-has-clause-none : goal.returns-then-not-has-clause-none
returns-then-not-has-clause-none g c =
    let same = rest_told (problem_of c.args.ordered.now.problem) c.args.ordered.now.order g.C.CountySet.test c.args.state.now c.places-places.ensures.order c.requires.placed c.in-Some.place c.args.asked.now.county c.in-Some.ensures.0 c.in-Some.ensures.1 in
    λ _ can. false≢true (sym c.if-not-has.true ∙ (c.has.ensures.test ∙ (same ∙ can.rest)))

pub returns-clause-can : goal.returns-clause-can
returns-clause-can g c =
    let same = rest_told (problem_of c.args.ordered.now.problem) c.args.ordered.now.order g.C.CountySet.test c.args.state.now c.places-places.ensures.order c.requires.placed c.in-Some.place c.args.asked.now.county c.in-Some.ensures.0 c.in-Some.ensures.1 in
    let size = c.is_asked_size.ensures.0 c.if-not-is_asked_size.false in
    λ _. record { rest = sym same ∙ (sym c.has.ensures.test ∙ c.if-not-has.false); some = size.0; size = size.1 }
