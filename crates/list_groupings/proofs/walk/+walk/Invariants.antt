use Rattle.std.proofs.Common.{drop}
use Rattle.county_problem.specs.ProblemValue.{problem_of}
use Rattle.certificate_data.specs.TreeValue.{tree_of, leaf_of, list_of_takes}
use Rattle.certificate_data.specs.declared.tree.Tree.{out-Tree}
use Rattle.certificate_data.proofs.TreeLists.{list_onto}
use Rattle.certificate_laws.specs.State.{State}
use Rattle.certificate_data.specs.RoundValue.{round_of}
use Rattle.certificate_data.specs.Tree.{leaf}
use Rattle.checker_laws.specs.Lines.{tree_lines, takes_lines}
use Rattle.list_groupings.specs.Walking.{IsTreeAt, AreAt, AreBranchTakes}
use Rattle.list_groupings.proofs.Journeys.{GoesOnTakes, GoesOnTree}
use Rattle.list_groupings.proofs.walk.+walk.Given as goal

abbrev pub invariant-put_takes-taking : goal.invariant-put_takes-taking
invariant-put_takes-taking l =
    (s : State) → AreAt l.input s l.position (list_of_takes l.takes)
    → AreBranchTakes (problem_of l.input.problem.now) (round_of l.input.round.now) s (list_of_takes (drop l.take-index l.takes))
    × GoesOnTakes (problem_of l.input.problem.now) (round_of l.input.round.now) s (list_of_takes l.takes) (list_of_takes (drop l.take-index l.takes)) l.fn.found l.found

abbrev pub invariant-put_tree-branching : goal.invariant-put_tree-branching
invariant-put_tree-branching l =
    (s : State) → IsTreeAt l.input s l.fn.position (tree_of l.tree)
    → (t : State) × IsTreeAt l.input t l.position (list_onto (drop l.branch-index l.branch-items) (leaf (leaf_of (out-Tree l.tree).leaf)))
    × GoesOnTree (problem_of l.input.problem.now) (round_of l.input.round.now) s t (tree_of l.tree) (list_onto (drop l.branch-index l.branch-items) (leaf (leaf_of (out-Tree l.tree).leaf))) l.fn.found l.found

abbrev pub decreases-put_takes : goal.decreases-put_takes
decreases-put_takes l = takes_lines (list_of_takes l.takes.now)

abbrev pub decreases-put_tree : goal.decreases-put_tree
decreases-put_tree l = tree_lines (tree_of l.tree.now)
