use Rattle.std.proofs.Common.{◌≡◌, ◌↔◌, drop, length, map}
use Rattle.certificate_data.specs.RoundValue.{round_of}
use Rattle.state_groups.specs.PlacedValues.{state_at, IsPlaced}
use Rattle.piece_states.specs.Told.{raise_all}
use Rattle.piece_states.specs.PieceValue.{asked_of}
use Rattle.piece_states.specs.RoundStates.{EachCanAsk}
use Rattle.piece_states.proofs.raising.raise_all_told.Given as goal

abbrev pub invariant-raising : goal.invariant-raising
invariant-raising g l = record {
  placed : IsPlaced (length l.ordered.order) g.C.CountySet.test l.state;
  value : raise_all (map asked_of (drop l.county-index l.asked)) (state_at l.ordered.order g.C.CountySet.test l.state)
      ≡ raise_all (map asked_of l.asked) (state_at l.ordered.order g.C.CountySet.test l.initial.state);
  can : EachCanAsk (round_of l.round) (map asked_of (drop l.county-index l.asked)) (state_at l.ordered.order g.C.CountySet.test l.state)
      ↔ EachCanAsk (round_of l.round) (map asked_of l.asked) (state_at l.ordered.order g.C.CountySet.test l.initial.state);
}
