use Rattle.std.proofs.Common.{length, map}
use Rattle.piece_states.specs.PieceValue.{asked_of}
use Rattle.piece_states.proofs.ReadSteps.{Read}
use Rattle.piece_states.proofs.reading.told_lines.Given as goal

abbrev pub invariant-lines : goal.invariant-lines
invariant-lines l = Read l.fn.cursor l.closed.items (map asked_of l.asked.items) l.closing l.cursor

abbrev pub decreases-lines : goal.decreases-lines
decreases-lines l = length l.cursor.text
