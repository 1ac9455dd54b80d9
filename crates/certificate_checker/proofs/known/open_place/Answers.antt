use Rattle.std.proofs.Common.{refl, sym, ◌∙◌, subst, arith}
use Rattle.county_problem.specs.ProblemValue.{problem_of}
use Rattle.certificate_data.specs.RoundValue.{round_of}
use Rattle.certificate_laws.specs.State.{open_to}
use Rattle.certificate_laws.specs.Proving.{GoesInOrder}
use Rattle.state_groups.specs.StateValue.{state_of}
use Rattle.state_groups.specs.PlacedValues.{state_at}
use Rattle.state_judge.proofs.TurnLemmas.{open_at}
use Rattle.certificate_checker.proofs.known.open_place.Goals as goal

pub returns : goal.returns
returns g c =
    let test = g.C.CountySet.test in
    let input = c.args.input.now in
    let order = input.graph.now.ordered.now.order in
    let t = state_of test c.args.state.now in
    let at = c.in-Some.ensures in
    let here = sym (c.in_ok-open.ensures c.in-Some.place) ∙ (sym c.has.ensures.test ∙ c.if-not-has.false) in (
      at.0,
      at.1,
      λ wide. record {
        small = omega (arith, c.if-limit-input.false);
        is_open = open_at (problem_of input.graph.now.ordered.now.problem) order c.requires.input.graph.order t c.requires.placed.rest c.args.limit (open_to t c.args.limit) (λ x. refl) c.in-Some.place c.args.county at.0 at.1 ∙ here;
        in_turn = subst (λ f. GoesInOrder f (round_of input.round.now) (state_at order test c.args.state.now) c.args.county c.args.limit) (sym wide) tt;
      },
    )
