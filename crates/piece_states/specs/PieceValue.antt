-- What a value of the Rust type `OpenPiece` tells.
use Rattle.std.specs.Prelude.{ℕ, map}
use Rattle.piece_states.specs.declared.piece.Asked.{Asked as AskedHeld}
use Rattle.piece_states.specs.declared.piece.OpenPiece.{OpenPiece}
use Rattle.piece_states.specs.Told.{Asked, Told}

-- what a county asks for
abbrev pub asked_of : AskedHeld → Asked
asked_of a = record { county = a.county; size = a.size }

-- what the piece tells of its state
abbrev pub told_by : OpenPiece → Told
told_by piece = record { closed = piece.closed.items; asked = map asked_of piece.asked.items }

-- an open piece: the numbers of its round and of the piece, and what is told of its state
pub record PieceTold : Type 0 where
  pub round : ℕ
  pub piece : ℕ
  pub told : Told

-- the open piece of the Rust type
abbrev pub piece_of : OpenPiece → PieceTold
piece_of piece = record { round = piece.round; piece = piece.piece; told = told_by piece }
