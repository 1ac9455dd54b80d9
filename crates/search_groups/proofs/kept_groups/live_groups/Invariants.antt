use Rattle.std.proofs.Common.{◌≡◌, ◌+◌, ◌≤◌, take, length}
use Rattle.county_problem.specs.ProblemValue.{problem_of}
use Rattle.connected_laws.specs.Listing.{AreBelow}
use Rattle.certificate_laws.specs.Fitting.{IsLive}
use Rattle.state_groups.specs.PlacedValues.{state_at, codes_of_sets}
use Rattle.search_groups.specs.KnownGroups.{AreThose}
use Rattle.search_groups.proofs.kept_groups.live_groups.Given as goal

abbrev pub invariant-loop-group : goal.invariant-loop-group
invariant-loop-group g l = record {
  those : AreThose l.graph.ordered.now.order (IsLive (problem_of l.graph.ordered.now.problem) (state_at l.graph.ordered.now.order g.C.CountySet.test l.state)) (codes_of_sets l.graph.ordered.now.order g.C.CountySet.test (take l.group-index l.groups)) (codes_of_sets l.graph.ordered.now.order g.C.CountySet.test l.live.items);
  below : AreBelow (length l.graph.ordered.now.order) g.C.CountySet.test l.live.items;
  steps : l.steps.used ≡ l.fn.steps.used + l.group-index;
  more : l.fn.steps.used ≤ l.steps.used;
  limit : l.steps.limit ≡ l.fn.steps.limit;
}
