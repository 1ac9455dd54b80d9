use Rattle.std.proofs.Common.{◌≡◌, ◌≤◌, ◌++◌, List, length, Some}
use Rattle.county_codes.specs.Limits.{most_counties}
use Rattle.grouping_laws.specs.Grouping.{Grouping}
use Rattle.county_problem.specs.ProblemValue.{problem_of}
use Rattle.certificate_data.specs.RoundValue.{round_of, target_of}
use Rattle.certificate_data.specs.Tree.{Allowance as AllowanceValue}
use Rattle.certificate_lines.specs.declared.item.Item.{Item as ItemValue}
use Rattle.state_groups.specs.PlacedValues.{state_at}
use Rattle.certificate_checker.specs.ReadableTrees.{AllowancesAreSpelled}
use Rattle.certificate_checker.specs.Feeding.{stream_of, CountsSteps, FeedsThrough, ForEach, Fed}
use Rattle.county_problem.specs.OrderedValue.{problem_at}
use Rattle.search_groups.specs.PartLists.{AreListsOf}
use Rattle.certificate_checker.specs.Knowing.{IsKnownAt}
use Rattle.certificate_checker.specs.Judging.{line_items}
use Rattle.certificate_checker.proofs.BoundLoop.{LinesLeft}
use Rattle.certificate_checker.proofs.leaves.judge_bound_leaf.Given as goal

abbrev pub invariant-judging : goal.invariant-judging
invariant-judging g l = record {
  counts : CountsSteps l.fn.feed l.feed;
  fed : FeedsThrough (stream_of g.S.ItemSource.left g.S.ItemSource.given l.fn.feed l.fn.from) (stream_of g.S.ItemSource.left g.S.ItemSource.given l.feed l.from) Fed;
  known : IsKnownAt g.C.CountySet.test l.input (state_at l.input.graph.now.ordered.now.order g.C.CountySet.test l.state) l.known;
  lists : AreListsOf g.C.CountySet.test (problem_at l.input.graph.now.ordered.now) (length l.input.graph.now.ordered.now.order) l.lists;
  used : l.used ≤ most_counties;
  left : ForEach (stream_of g.S.ItemSource.left g.S.ItemSource.given l.fn.feed l.fn.from) (stream_of g.S.ItemSource.left g.S.ItemSource.given l.feed l.from) (λ a b. (lines : List AllowanceValue) (rest : List ItemValue) (target : Grouping)
      → AllowancesAreSpelled lines
      → length lines ≡ l.count
      → a.reading.items ≡ line_items lines ++ rest
      → target_of l.input.round.now.target ≡ Some target
      → LinesLeft (problem_of l.input.graph.now.ordered.now.problem) (round_of l.input.round.now) (state_at l.input.graph.now.ordered.now.order g.C.CountySet.test l.state) target a b lines rest l.before l.used);
}
