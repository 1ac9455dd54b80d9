use Rattle.std.proofs.Common.{◌≡◌, ◌+◌, ◌++◌, drop}
use Rattle.share_board.specs.OpenPieces.{numbers}
use Rattle.share_board.proofs.open_pieces.open_numbers.Given as goal

abbrev pub invariant-loop-at : goal.invariant-loop-at
invariant-loop-at l = l.numbers.items ++ numbers (l.at + 1) (drop l.at l.fates) ≡ numbers 1 l.fates
