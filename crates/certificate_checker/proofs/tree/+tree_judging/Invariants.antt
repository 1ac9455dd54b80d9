use Rattle.std.proofs.Common.{◌≡◌, ◌-◌, ◌∷◌, ◌++◌, List, All, length}
use Rattle.county_problem.specs.ProblemValue.{problem_of}
use Rattle.certificate_data.specs.RoundValue.{round_of}
use Rattle.certificate_data.specs.Tree.{Tree, Takes}
use Rattle.certificate_text.specs.Trees.{items_of_tree}
use Rattle.certificate_lines.specs.declared.item.Item.{Item as ItemValue}
use Rattle.checker_laws.specs.Work.{Open, a_tree, some_takes}
use Rattle.state_groups.specs.PlacedValues.{state_at, codes_of_sets, IsPlaced, IsClosable}
use Rattle.county_problem.specs.OrderedValue.{problem_at}
use Rattle.search_groups.specs.PartLists.{AreListsOf}
use Rattle.certificate_checker.specs.Knowing.{IsKnownAt, AreOfKnownSize}
use Rattle.certificate_checker.specs.ReadableTrees.{IsReadable, AreReadable}
use Rattle.certificate_checker.specs.Feeding.{stream_of, CountsSteps, FeedsThrough, ForEach, Fed, items_to_mark}
use Rattle.certificate_checker.proofs.Takes.{TakesLeft}
use Rattle.certificate_checker.proofs.Trees.{TreeLeft}
use Rattle.certificate_checker.proofs.tree.+tree_judging.Given as goal

abbrev pub decreases-judge_takes : goal.decreases-judge_takes
decreases-judge_takes g l = l.feed.now.steps.limit - l.feed.now.steps.used

abbrev pub decreases-judge_tree : goal.decreases-judge_tree
decreases-judge_tree g l = l.feed.now.steps.limit - l.feed.now.steps.used

abbrev pub invariant-judge_takes-taking : goal.invariant-judge_takes-taking
invariant-judge_takes-taking g l = record {
  counts : CountsSteps l.fn.feed l.feed;
  fed : FeedsThrough (stream_of g.S.ItemSource.left g.S.ItemSource.given l.fn.feed l.fn.from) (stream_of g.S.ItemSource.left g.S.ItemSource.given l.feed l.from) Fed;
  groups : All (IsClosable g.C.CountySet.test l.state) l.left;
  fits : AreOfKnownSize g.C.CountySet.test l.input (state_at l.input.graph.now.ordered.now.order g.C.CountySet.test l.state) l.known l.left;
  lists : AreListsOf g.C.CountySet.test (problem_at l.input.graph.now.ordered.now) (length l.input.graph.now.ordered.now.order) l.lists;
  left : ForEach (stream_of g.S.ItemSource.left g.S.ItemSource.given l.fn.feed l.fn.from) (stream_of g.S.ItemSource.left g.S.ItemSource.given l.feed l.from) (λ a b. (takes : Takes) (rest : List ItemValue) (more : List Open)
      → AreReadable l.input.round.now.format takes
      → a.reading.items ≡ items_to_mark takes ++ rest
      → TakesLeft l.input.round.now.format (problem_of l.input.graph.now.ordered.now.problem) (round_of l.input.round.now) (state_at l.input.graph.now.ordered.now.order g.C.CountySet.test l.state) (codes_of_sets l.input.graph.now.ordered.now.order g.C.CountySet.test l.left) rest more a b (some_takes takes (state_at l.input.graph.now.ordered.now.order g.C.CountySet.test l.state) (codes_of_sets l.input.graph.now.ordered.now.order g.C.CountySet.test l.fn.groups) ∷ more));
}

abbrev pub decreases-judge_takes-taking : goal.decreases-judge_takes-taking
decreases-judge_takes-taking g l = l.feed.steps.limit - l.feed.steps.used

abbrev pub invariant-judge_tree-branching : goal.invariant-judge_tree-branching
invariant-judge_tree-branching g l = record {
  counts : CountsSteps l.fn.feed l.feed;
  fed : FeedsThrough (stream_of g.S.ItemSource.left g.S.ItemSource.given l.fn.feed l.fn.from) (stream_of g.S.ItemSource.left g.S.ItemSource.given l.feed l.from) Fed;
  placed : IsPlaced (length l.input.graph.now.ordered.now.order) g.C.CountySet.test l.state;
  known : IsKnownAt g.C.CountySet.test l.input (state_at l.input.graph.now.ordered.now.order g.C.CountySet.test l.state) l.known;
  lists : AreListsOf g.C.CountySet.test (problem_at l.input.graph.now.ordered.now) (length l.input.graph.now.ordered.now.order) l.lists;
  left : ForEach (stream_of g.S.ItemSource.left g.S.ItemSource.given l.fn.feed l.fn.from) (stream_of g.S.ItemSource.left g.S.ItemSource.given l.feed l.from) (λ a b. (tree : Tree) (rest : List ItemValue) (more : List Open)
      → IsReadable l.input.round.now.format tree
      → a.reading.items ≡ items_of_tree tree ++ rest
      → TreeLeft l.input.round.now.format (problem_of l.input.graph.now.ordered.now.problem) (round_of l.input.round.now) (state_at l.input.graph.now.ordered.now.order g.C.CountySet.test l.state) rest more a b (a_tree tree (state_at l.input.graph.now.ordered.now.order g.C.CountySet.test l.fn.state) ∷ more));
}

abbrev pub decreases-judge_tree-branching : goal.decreases-judge_tree-branching
decreases-judge_tree-branching g l = l.feed.steps.limit - l.feed.steps.used
