use Rattle.std.proofs.Common.{◌≤◌, ◌+◌, ◌∷◌, [], length, sym, ap, subst}
use Rattle.grouping_laws.specs.GroupsFrom.{IsOrder}
use Rattle.county_problem.specs.ProblemValue.{problem_of}
use Rattle.certificate_data.specs.RoundValue.{round_of, target_of}
use Rattle.certificate_laws.specs.State.{empty_state}
use Rattle.checker_laws.specs.Lines.{tolerance_line}
use Rattle.checker_laws.specs.Verdict.{IsToleranceFault, IsOrderFault, IsLimitFault, IsTargetFault}
use Rattle.checker_laws.specs.Work.{a_tree}
use Rattle.certificate_checker.specs.Feeding.{stream_of, fed_by}
use Rattle.certificate_checker.specs.Judging.{IsJudged}
use Rattle.certificate_checker.proofs.Targets.{order_fits}
use Rattle.certificate_checker.proofs.Whole.{tolerance_ends, order_ends, limit_ends, target_ends, round_stops, round_judged}
use Rattle.certificate_checker.proofs.certificate.judge_round.Goals as goal

pub judge_first-requires-clause-fits : goal.judge_first-requires-clause-fits
judge_first-requires-clause-fits g c =
    order_fits c.in-Ok-judge_order.ordered.problem c.in-Ok-judge_order.ordered.order g.C.CountySet.PLACES c.problem-problem.ensures.law
    (subst (λ o. IsOrder (problem_of o.problem) o.order) (sym c.in-Ok-judge_order.ensures.value) c.in-Ok-judge_order.ensures.order)
    (subst (λ v. length v.counties ≤ g.C.CountySet.PLACES) (sym (ap (λ o. o.problem) c.in-Ok-judge_order.ensures.value)) c.requires.fits)

pub returns-in-Ok-judge_target-clause-judged : goal.returns-in-Ok-judge_target-clause-judged
returns-in-Ok-judge_target-clause-judged g c all sees tree rest line readable items =
    round_judged (problem_of c.args.problem.now) (round_of c.args.round.now) tree c.in-Ok.ensures c.in-Ok-judge_order.ensures.order c.in-Ok-judge_limit.ensures c.in-Ok-judge_target.ensures.0 (fed_by (stream_of g.S.ItemSource.left g.S.ItemSource.given c.args.feed.now c.args.from.now) all) line rest (fed_by (stream_of g.S.ItemSource.left g.S.ItemSource.given c.judge_first.new.feed c.judge_first.new.from) all) c.judge_first.result
    (subst (λ v. IsJudged (problem_of v) (round_of c.args.round.now) (a_tree tree (empty_state (problem_of v)) ∷ []) [] rest (fed_by (stream_of g.S.ItemSource.left g.S.ItemSource.given c.args.feed.now c.args.from.now) all) c.judge_first.result (fed_by (stream_of g.S.ItemSource.left g.S.ItemSource.given c.judge_first.new.feed c.judge_first.new.from) all))
    (ap (λ o. o.problem) c.in-Ok-judge_order.ensures.value) (c.judge_first.ensures.judged all sees tree rest readable items))

pub returns-in-Ok-judge_limit-clause-judged : goal.returns-in-Ok-judge_limit-clause-judged
returns-in-Ok-judge_limit-clause-judged g c all sees tree rest line readable items =
    round_stops (problem_of c.args.problem.now) (round_of c.args.round.now) tree (IsTargetFault (problem_of c.args.problem.now) (target_of c.args.round.now.target)) (tolerance_line c.args.round.now.tolerance + 3) rest (fed_by (stream_of g.S.ItemSource.left g.S.ItemSource.given c.args.feed.now c.args.from.now) all) (fed_by (stream_of g.S.ItemSource.left g.S.ItemSource.given c.args.feed.now c.args.from.now) all) c.in-Err-judge_target.stop c.in-Err-judge_target.ensures
    (target_ends (problem_of c.args.problem.now) (round_of c.args.round.now) tree c.in-Ok.ensures c.in-Ok-judge_order.ensures.order c.in-Ok-judge_limit.ensures)

pub returns-in-Ok-judge_order-clause-judged : goal.returns-in-Ok-judge_order-clause-judged
returns-in-Ok-judge_order-clause-judged g c all sees tree rest line readable items =
    round_stops (problem_of c.args.problem.now) (round_of c.args.round.now) tree (IsLimitFault c.args.round.now.limit (target_of c.args.round.now.target)) (tolerance_line c.args.round.now.tolerance + 2) rest (fed_by (stream_of g.S.ItemSource.left g.S.ItemSource.given c.args.feed.now c.args.from.now) all) (fed_by (stream_of g.S.ItemSource.left g.S.ItemSource.given c.args.feed.now c.args.from.now) all) c.in-Err-judge_limit.stop c.in-Err-judge_limit.ensures
    (limit_ends (problem_of c.args.problem.now) (round_of c.args.round.now) tree c.in-Ok.ensures c.in-Ok-judge_order.ensures.order)

pub returns-in-Ok-clause-judged : goal.returns-in-Ok-clause-judged
returns-in-Ok-clause-judged g c all sees tree rest line readable items =
    round_stops (problem_of c.args.problem.now) (round_of c.args.round.now) tree (IsOrderFault (problem_of c.args.problem.now) (round_of c.args.round.now)) (tolerance_line c.args.round.now.tolerance + 1) rest (fed_by (stream_of g.S.ItemSource.left g.S.ItemSource.given c.args.feed.now c.args.from.now) all) (fed_by (stream_of g.S.ItemSource.left g.S.ItemSource.given c.args.feed.now c.args.from.now) all) c.in-Err-judge_order.stop c.in-Err-judge_order.ensures.order
    (order_ends (problem_of c.args.problem.now) (round_of c.args.round.now) tree c.in-Ok.ensures)

pub returns-clause-judged : goal.returns-clause-judged
returns-clause-judged g c all sees tree rest line readable items =
    round_stops (problem_of c.args.problem.now) (round_of c.args.round.now) tree (IsToleranceFault (problem_of c.args.problem.now) (round_of c.args.round.now)) (tolerance_line c.args.round.now.tolerance) rest (fed_by (stream_of g.S.ItemSource.left g.S.ItemSource.given c.args.feed.now c.args.from.now) all) (fed_by (stream_of g.S.ItemSource.left g.S.ItemSource.given c.args.feed.now c.args.from.now) all) c.in-Err.stop c.in-Err.ensures
    (tolerance_ends (problem_of c.args.problem.now) (round_of c.args.round.now) tree)
