use Rattle.piece_states.specs.PieceValue.{piece_of}
use Rattle.piece_states.specs.Reading.{piece_in}
use Rattle.piece_states.proofs.ToldBack.{piece_back, only_read}
use Rattle.piece_states.proofs.reading.front_open_piece.Goals as goal

pub returns-clause-only : goal.returns-clause-only
returns-clause-only c piece rest has is =
    only_read (λ r. piece_of r.0) c.piece_at.result piece (piece_in c.args.text.now) (piece_back piece rest c.args.text.now has is) c.piece_at.ensures.read
