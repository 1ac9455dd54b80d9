use Rattle.std.proofs.Common.{IfOk, ◌∙◌, subst}
use Rattle.county_problem.specs.ProblemValue.{problem_of}
use Rattle.certificate_data.specs.RoundValue.{round_of}
use Rattle.certificate_data.specs.TreeValue.{tree_of}
use Rattle.state_groups.specs.PlacedValues.{state_at}
use Rattle.certificate_checker.specs.TreeAnswers.{IsBudgetedTreeAnswer}
use Rattle.certificate_checker.proofs.TreeAnswering.{answer_of_tree, within_of_tree, right_of_trees}
use Rattle.certificate_checker.proofs.tree_checking.check_tree_knowing.Goals as goal

pub returns-clause-verdict : goal.returns-clause-verdict
returns-clause-verdict g c =
    let input = c.args.input.now in
    let p = problem_of input.graph.now.ordered.now.problem in
    answer_of_tree p (round_of input.round.now) (state_at input.graph.now.ordered.now.order g.C.CountySet.test c.args.state.now) (tree_of c.args.tree.now) c.args.budget c.check_lines.result
    (subst (λ z. IfOk c.check_lines.result (IsBudgetedTreeAnswer p (round_of input.round.now) z (tree_of c.args.tree.now) c.args.budget)) c.in_ok-state.ensures.value
    (c.check_lines.ensures.verdict (tree_of c.args.tree.now) (c.deref.ensures.value ∙ c.in_ok-lines.ensures.text) c.in_ok-lines.ensures.numbers))

pub returns-clause-right : goal.returns-clause-right
returns-clause-right g c =
    let input = c.args.input.now in
    let p = problem_of input.graph.now.ordered.now.problem in
    let s = state_at input.graph.now.ordered.now.order g.C.CountySet.test c.args.state.now in
    right_of_trees p (round_of input.round.now) s (tree_of c.args.tree.now) c.args.budget c.check_lines.result
    (answer_of_tree p (round_of input.round.now) s (tree_of c.args.tree.now) c.args.budget c.check_lines.result
    (subst (λ z. IfOk c.check_lines.result (IsBudgetedTreeAnswer p (round_of input.round.now) z (tree_of c.args.tree.now) c.args.budget)) c.in_ok-state.ensures.value
    (c.check_lines.ensures.verdict (tree_of c.args.tree.now) (c.deref.ensures.value ∙ c.in_ok-lines.ensures.text) c.in_ok-lines.ensures.numbers)))

pub returns-clause-within : goal.returns-clause-within
returns-clause-within g c =
    let input = c.args.input.now in
    within_of_tree (problem_of input.graph.now.ordered.now.problem) (round_of input.round.now) (state_at input.graph.now.ordered.now.order g.C.CountySet.test c.in_ok-state.state) (tree_of c.args.tree.now) c.args.budget c.check_lines.result
    (c.check_lines.ensures.verdict (tree_of c.args.tree.now) (c.deref.ensures.value ∙ c.in_ok-lines.ensures.text) c.in_ok-lines.ensures.numbers)
