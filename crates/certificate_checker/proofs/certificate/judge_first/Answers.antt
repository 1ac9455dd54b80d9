use Rattle.std.proofs.Common.{◌∷◌, [], length, sym, subst}
use Rattle.county_problem.specs.OrderedValue.{OrderedValue, problem_at}
use Rattle.county_problem.specs.ProblemValue.{problem_of}
use Rattle.certificate_data.specs.RoundValue.{round_of}
use Rattle.certificate_laws.specs.State.{IsState}
use Rattle.certificate_laws.proofs.Agreement.{empty_is_state}
use Rattle.state_groups.specs.PlacedValues.{state_at}
use Rattle.checker_laws.specs.Work.{a_tree}
use Rattle.certificate_checker.specs.Feeding.{stream_of, fed_by}
use Rattle.certificate_checker.specs.Judging.{IsJudged}
use Rattle.certificate_checker.proofs.certificate.judge_first.Goals as goal

pub known_at-requires-clause-state : goal.known_at-requires-clause-state
known_at-requires-clause-state g c =
    let p = problem_of c.args.ordered.now.problem in
    let round = round_of c.args.round.now in
    subst (λ (o : OrderedValue). IsState (problem_of o.problem) round (state_at o.order g.C.CountySet.test c.in_ok-state.state)) (sym c.in_ok-graph.ensures.ordered)
    (subst (IsState p round) (sym c.in_ok-state.ensures.value) (empty_is_state p round))

pub judge_tree-requires-clause-lists : goal.judge_tree-requires-clause-lists
judge_tree-requires-clause-lists g c = c.new-lists.ensures.lists (problem_at c.in_ok-graph.graph.ordered.now) (length c.in_ok-graph.graph.ordered.now.order)

pub returns-clause-judged : goal.returns-clause-judged
returns-clause-judged g c all sees tree rest readable items =
    let round = round_of c.args.round.now in
    let old = fed_by (stream_of g.S.ItemSource.left g.S.ItemSource.given c.args.feed.now c.args.from.now) all in
    let new = fed_by (stream_of g.S.ItemSource.left g.S.ItemSource.given c.judge_tree.new.feed c.judge_tree.new.from) all in
    subst (λ z. IsJudged (problem_of c.args.ordered.now.problem) round (a_tree tree z ∷ []) [] rest old c.judge_tree.result new) c.in_ok-state.ensures.value
    (subst (λ (o : OrderedValue). IsJudged (problem_of o.problem) round (a_tree tree (state_at o.order g.C.CountySet.test c.in_ok-state.state) ∷ []) [] rest old c.judge_tree.result new) c.in_ok-graph.ensures.ordered
    (c.judge_tree.ensures.judged all sees tree rest [] readable items))
