use Rattle.std.proofs.Common.{◌≡◌, ◌≤◌, take, length}
use Rattle.county_problem.specs.OrderedValue.{problem_at}
use Rattle.search_groups.specs.PartLists.{ArePartGroups, AreListsOf}
use Rattle.search_groups.proofs.size_groups.part_groups.Given as goal

abbrev pub invariant-loop-part : goal.invariant-loop-part
invariant-loop-part g l = record {
  groups : ArePartGroups g.C.CountySet.test (problem_at l.graph.ordered.now) (length l.graph.ordered.now.order) l.size (take l.part-index l.parts) l.groups.items;
  lists : AreListsOf g.C.CountySet.test (problem_at l.graph.ordered.now) (length l.graph.ordered.now.order) l.lists;
  more : l.fn.steps.used ≤ l.steps.used;
  limit : l.steps.limit ≡ l.fn.steps.limit;
}
