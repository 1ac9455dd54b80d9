use Rattle.std.proofs.Common.{subst}
use Rattle.county_problem.specs.ProblemValue.{problem_of}
use Rattle.certificate_data.specs.RoundValue.{round_of}
use Rattle.certificate_data.specs.TreeValue.{tree_of}
use Rattle.certificate_text.specs.TreeFault.{lines_of_tree}
use Rattle.certificate_checker.specs.TreeAnswers.{IsTreeAnswer, IsRightOfTrees}
use Rattle.certificate_checker.specs.declared.verdict.TreeVerdict.{TreeVerdict}
use Rattle.state_groups.specs.PlacedValues.{state_at}
use Rattle.partial_trees.proofs.judging.judge_whole.Goals as goal

pub returns-in-Ok-Fault-clause-refused : goal.returns-in-Ok-Fault-clause-refused
returns-in-Ok-Fault-clause-refused g c =
    let check = c.args.input.now.check in
    let ordered = check.graph.now.ordered.now in
    let right = subst (λ (z : TreeVerdict). IsRightOfTrees (problem_of ordered.problem) (round_of check.round.now) (state_at ordered.order g.C.CountySet.test c.args.state.now) (tree_of c.args.tree.now) z) c.in-Ok-Fault.field-0-is c.in-Ok-Fault.ensures.right in
    λ h. right (lines_of_tree (tree_of c.args.tree.now)) h.0 h.1

pub returns-in-Ok-Budget-clause-refused : goal.returns-in-Ok-Budget-clause-refused
returns-in-Ok-Budget-clause-refused g c =
    let input = c.args.input.now in
    let ordered = input.check.graph.now.ordered.now in
    let over = subst (λ (z : TreeVerdict). IsTreeAnswer (problem_of ordered.problem) (round_of input.check.round.now) (state_at ordered.order g.C.CountySet.test c.args.state.now) (tree_of c.args.tree.now) input.budget z) c.in-Ok-Budget.field-0-is c.in-Ok-Budget.ensures.verdict in
    λ cost h. over cost h
