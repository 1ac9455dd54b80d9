use Rattle.std.proofs.Common.{◌≡◌}
use Rattle.board_laws.specs.PartialTrees.{PartialTakes}
use Rattle.share_board.proofs.Onto.{begun_onto_all}
use Rattle.share_board.proofs.SplitTrees.{open_onto}
use Rattle.share_board.proofs.parts.split_tree.Given as goal

abbrev pub invariant-loop-codes : goal.invariant-loop-codes
invariant-loop-codes l = record {
  can : (goal.iterator-loop-codes).can_next l.codes-iterator;
  finite : (goal.iterator-loop-codes).is_finite l.codes-iterator;
  takes : (others : PartialTakes) → begun_onto_all l.takes.items others ≡ open_onto l.yielded others;
}
