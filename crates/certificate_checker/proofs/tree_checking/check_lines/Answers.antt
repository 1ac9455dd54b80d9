use Rattle.std.proofs.Common.{◌≡◌, [], None, length, IfOk, refl, sym, ◌∙◌, ap, subst, arith}
use Rattle.county_problem.specs.ProblemValue.{problem_of}
use Rattle.certificate_data.specs.RoundValue.{round_of}
use Rattle.field_lines.specs.Source.{nothing_comes}
use Rattle.certificate_lines.specs.ItemsLeft.{Foresees}
use Rattle.certificate_lines.specs.ItemReadings.{Unread, tree_reading}
use Rattle.state_groups.specs.PlacedValues.{state_at}
use Rattle.certificate_text.specs.TreeFault.{lines_of_tree}
use Rattle.certificate_checker.specs.Feeding.{FeedValue, feed_at}
use Rattle.certificate_checker.specs.TreeAnswers.{IsBudgetedTreeAnswer}
use Rattle.certificate_checker.proofs.TreeAnswering.{tree_answered}
use Rattle.certificate_checker.proofs.tree_checking.check_lines.Goals as goal

pub returns-clause-verdict : goal.returns-clause-verdict
returns-clause-verdict g c tree is numbers =
    let p = problem_of c.args.input.now.graph.now.ordered.now.problem in
    let round = round_of c.args.input.now.round.now in
    let s = state_at c.args.input.now.graph.now.ordered.now.order g.C.CountySet.test c.args.state.now in
    let same : tree_reading c.args.input.now.round.now.format c.places-places.result c.args.lines.now ≡ tree_reading c.args.input.now.round.now.format (length c.args.input.now.round.now.order) (lines_of_tree tree) =
    ap (λ n. tree_reading c.args.input.now.round.now.format n c.args.lines.now) (c.places-places.ensures.value ∙ ap length c.requires.input.order) ∙ ap (tree_reading c.args.input.now.round.now.format (length c.args.input.now.round.now.order)) is in
    let sees : Foresees nothing_comes [] = record { later = []; text = refl; may = λ ended. refl } in
    let start : FeedValue = record { reading = c.of_tree.result; line = 0; limit = c.new.result.limit; used = c.new.result.used } in
    let none : (tree_reading c.args.input.now.round.now.format (length c.args.input.now.round.now.order) (lines_of_tree tree)).fault ≡ None =
    sym (ap (λ (z : Unread). z.fault) same) ∙ (sym c.in_ok-fault.ensures ∙ c.in_default.is) in
    subst (λ n. IfOk c.said_of.result (IsBudgetedTreeAnswer p round s tree n)) c.new.ensures.limit
    (tree_answered p round s tree start (feed_at c.judge_tree-judged.new.feed.source c.judge_tree-judged.new.feed) refl c.new.ensures.used numbers (c.of_tree.ensures ∙ same) none c.judge_tree-judged.result c.said_of.result (λ t r readable items. c.judge_tree-judged.ensures.judged [] sees t r [] readable items) (c.judge_tree-judged.ensures.fed [] sees).1 (omega (arith, c.used-used.ensures.law, c.used-used.ensures.value)) c.said_of.ensures)
