use Rattle.std.proofs.Common.{ℕ, ◌≡◌, Some, drop}
use Rattle.connected_sets.specs.Graphs.{graph_problem, graph_order, graph_places, place_problem}
use Rattle.certificate_data.specs.RoundValue.{round_of}
use Rattle.certificate_laws.specs.Groups.{IsGroupAt}
use Rattle.search_groups.specs.declared.position.Position.{Position}
use Rattle.search_groups.specs.PartLists.{AreListsOf}
use Rattle.certificate_checker.specs.Knowing.{IsKnownAt}
use Rattle.state_groups.specs.PlacedValues.{state_at, codes_of_sets, IsPlaced, IsClosable}
use Rattle.partial_trees.specs.declared.tree.PartialTree.{out-PartialTree}
use Rattle.partial_trees.specs.PartialValue.{rest_of, partial_of, list_of_begun, list_onto}
use Rattle.partial_trees.proofs.PartialLists.{deep, deep_in}
use Rattle.partial_trees.proofs.Taking.{TakesLeft, PartLeft}
use Rattle.std.specs.List.{All}
use Rattle.partial_trees.proofs.judging.+judging.Given as goal

abbrev pub decreases-judge_takes : goal.decreases-judge_takes
decreases-judge_takes g l = deep_in (list_of_begun l.takes.now)

abbrev pub decreases-judge_part : goal.decreases-judge_part
decreases-judge_part g l = deep (partial_of l.part.now)

abbrev pub invariant-judge_part-branching : goal.invariant-judge_part-branching
invariant-judge_part-branching g l = record {
  placed : IsPlaced (graph_places l.input.check.graph.now) g.C.CountySet.test l.state;
  known : IsKnownAt g.C.CountySet.test l.input.check (state_at (graph_order l.input.check.graph.now) g.C.CountySet.test l.state) l.known;
  lists : AreListsOf g.C.CountySet.test (place_problem l.input.check.graph.now) (graph_places l.input.check.graph.now) l.lists;
  left : PartLeft g.C.CountySet.test (graph_problem l.input.check.graph.now) (round_of l.input.check.round.now) (state_at (graph_order l.input.check.graph.now) g.C.CountySet.test l.fn.state) (partial_of l.part) l.fn.states.items
      (state_at (graph_order l.input.check.graph.now) g.C.CountySet.test l.state) (list_onto (drop l.branch-index l.branch-items) (rest_of (out-PartialTree l.part).rest)) l.states.items;
}

abbrev pub invariant-judge_takes-taking : goal.invariant-judge_takes-taking
invariant-judge_takes-taking g l = record {
  closable : All (IsClosable g.C.CountySet.test l.state) l.left;
  fits : (at : Position g.row.C.Denot)
      → l.known ≡ Some at
      → All (λ k. (c : ℕ) × IsGroupAt (graph_problem l.input.check.graph.now) (round_of l.input.check.round.now) (state_at (graph_order l.input.check.graph.now) g.C.CountySet.test l.state) c at.size k) (codes_of_sets (graph_order l.input.check.graph.now) g.C.CountySet.test l.left);
  lists : AreListsOf g.C.CountySet.test (place_problem l.input.check.graph.now) (graph_places l.input.check.graph.now) l.lists;
  taken : TakesLeft g.C.CountySet.test (graph_problem l.input.check.graph.now) (round_of l.input.check.round.now) (state_at (graph_order l.input.check.graph.now) g.C.CountySet.test l.state) (codes_of_sets (graph_order l.input.check.graph.now) g.C.CountySet.test l.groups) (list_of_begun l.takes) l.fn.states.items
      (codes_of_sets (graph_order l.input.check.graph.now) g.C.CountySet.test l.left) (list_of_begun (drop l.take-index l.takes)) l.states.items;
}
