use Rattle.std.proofs.Common.{◌≡◌, ◌-◌}
use Rattle.std.proofs.Common.{length}
use Rattle.county_problem.specs.ProblemValue.{problem_of}
use Rattle.county_problem.specs.OrderedValue.{problem_at}
use Rattle.search_groups.specs.PartLists.{AreListsOf}
use Rattle.branch_bound.specs.Solving.{IsTarget}
use Rattle.branch_bound.proofs.solving.improve.Given as goal

abbrev pub invariant-loop-tree : goal.invariant-loop-tree
invariant-loop-tree g l = record {
  target : IsTarget (problem_of l.graph.ordered.now.problem) l.graph.ordered.now.order l.target.groups.items;
  lists : AreListsOf g.C.CountySet.test (problem_at l.graph.ordered.now) (length l.graph.ordered.now.order) l.lists;
  limit : l.steps.limit ≡ l.fn.steps.limit;
}

abbrev pub decreases-loop-tree : goal.decreases-loop-tree
decreases-loop-tree g l = l.steps.limit - l.steps.used
