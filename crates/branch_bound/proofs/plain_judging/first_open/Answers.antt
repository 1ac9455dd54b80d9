use Rattle.std.proofs.Common.{refl, arith}
use Rattle.county_problem.specs.ProblemValue.{problem_of}
use Rattle.certificate_data.specs.RoundValue.{round_of}
use Rattle.state_groups.specs.StateValue.{state_of}
use Rattle.county_problem.specs.OrderedValue.{code_at}
use Rattle.state_judge.proofs.TurnLemmas.{open_below, none_open, can_plain}
use Rattle.branch_bound.specs.Searching.{search_problem, search_round, search_state}
use Rattle.branch_bound.proofs.PlainStates.{none_fits}
use Rattle.branch_bound.proofs.plain_judging.first_open.Goals as goal

pub returns-in-Some : goal.returns-in-Some
returns-in-Some g c =
    let test = g.C.CountySet.test in
    let input = c.args.input.now in
    let p = problem_of input.graph.now.ordered.now.problem in
    let order = input.graph.now.ordered.now.order in
    let whole = c.requires.input.graph.order in
    let t = state_of test c.args.state.now in
    let limit = input.round.now.limit in
    let shown = test c.in_ok-open.open in
    let least = c.in-Some.ensures.least in
    let below = open_below p order whole t c.requires.at.placed.rest limit shown c.in_ok-open.ensures c.in-Some.place least.1 in (
      below,
      can_plain p order whole t c.requires.at.placed.rest limit shown c.in_ok-open.ensures (round_of input.round.now) c.requires.input.order (code_at order c.in-Some.place) c.in-Some.place c.in-Some.place least.1 (λ x l. least.2 x (omega arith) l) below refl refl refl c.requires.input.plain,
    )

pub returns : goal.returns
returns g c =
    let test = g.C.CountySet.test in
    let input = c.args.input.now in
    none_fits (search_problem input) (search_round input) (search_state input test c.args.state.now)
    (none_open (search_problem input) input.graph.now.ordered.now.order c.requires.input.graph.order (state_of test c.args.state.now) c.requires.at.placed.rest input.round.now.limit (test c.in_ok-open.open) c.in_ok-open.ensures c.in-None.ensures.least)
