use Rattle.std.proofs.Common.{refl, ◌∙◌, arith}
use Rattle.certificate_data.specs.RoundValue.{round_of}
use Rattle.county_problem.specs.ProblemValue.{problem_of}
use Rattle.state_groups.specs.PlacedValues.{state_at}
use Rattle.certificate_data.specs.TreeValue.{allowance_of}
use Rattle.certificate_checker.specs.Feeding.{stream_of, fed_by}
use Rattle.certificate_checker.proofs.Lines.{judged_small, line_judged, kept_fed}
use Rattle.certificate_checker.proofs.leaves.judge_line.Goals as goal

pub returns-clause-fed : goal.returns-clause-fed
returns-clause-fed g c all sees =
    let n = c.in_ok-line.ensures.fed all sees in
    let h = n.1 in (
      n.0,
      kept_fed _ _ c.next_allowance.new.feed.line c.knowing_allowance-judged.result c.judged_at.result
          (record {
            fault = h.fault;
            limit = c.knowing_allowance-judged.ensures.limit ∙ h.limit;
            lines = h.lines;
            later = h.later;
            counted = omega (arith, h.counted, c.knowing_allowance-judged.ensures.more);
          })
          c.judged_at.ensures,
    )

pub returns-clause-small : goal.returns-clause-small
returns-clause-small g c =
    judged_small _ _ _ (λ i. c.args.wanted) c.args.size c.args.used c.next_allowance.new.feed.line (allowance_of c.in_ok-line.line) c.knowing_allowance-judged.result c.judged_at.result _ (c.knowing_allowance-judged.ensures.line (λ i. c.args.wanted) refl) c.judged_at.ensures

pub returns-clause-judged : goal.returns-clause-judged
returns-clause-judged g c all sees counts lines rest e spelled items =
    line_judged (problem_of c.args.input.now.graph.now.ordered.now.problem) (round_of c.args.input.now.round.now) (state_at c.args.input.now.graph.now.ordered.now.order g.C.CountySet.test c.args.state.now)
    counts c.args.size c.args.used lines rest
    (fed_by (stream_of g.S.ItemSource.left g.S.ItemSource.given c.args.feed.now c.args.from.now) all) (fed_by (stream_of g.S.ItemSource.left g.S.ItemSource.given c.next_allowance.new.feed c.next_allowance.new.from) all) _ c.in_ok-line.line c.knowing_allowance-judged.result c.judged_at.result
    (c.in_ok-line.ensures.took all sees) (c.in_ok-line.ensures.fed all sees).1.limit items refl refl spelled (c.knowing_allowance-judged.ensures.line counts e) c.knowing_allowance-judged.ensures.steps c.knowing_allowance-judged.ensures.stopped c.judged_at.ensures
