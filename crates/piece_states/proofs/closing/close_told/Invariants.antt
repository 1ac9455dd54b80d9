use Rattle.std.proofs.Common.{◌≡◌, ◌↔◌, drop}
use Rattle.connected_sets.specs.Graphs.{graph_problem, graph_order, graph_places}
use Rattle.certificate_data.specs.RoundValue.{round_of}
use Rattle.state_groups.specs.PlacedValues.{state_at, IsPlaced}
use Rattle.piece_states.specs.Told.{close_all}
use Rattle.piece_states.specs.RoundStates.{EachCanClose}
use Rattle.piece_states.proofs.closing.close_told.Given as goal

abbrev pub invariant-closing : goal.invariant-closing
invariant-closing g l = record {
  placed : IsPlaced (graph_places l.graph) g.C.CountySet.test l.state;
  value : close_all (drop l.group-index l.groups) (state_at (graph_order l.graph) g.C.CountySet.test l.state)
      ≡ close_all l.groups (state_at (graph_order l.graph) g.C.CountySet.test l.initial.state);
  can : EachCanClose (graph_problem l.graph) (graph_order l.graph) (round_of l.round) (drop l.group-index l.groups) (state_at (graph_order l.graph) g.C.CountySet.test l.state)
      ↔ EachCanClose (graph_problem l.graph) (graph_order l.graph) (round_of l.round) l.groups (state_at (graph_order l.graph) g.C.CountySet.test l.initial.state);
}
