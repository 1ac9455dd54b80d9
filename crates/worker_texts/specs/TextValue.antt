-- What values of the Rust types `RoundTold` and `WorkerText` tell.
use Rattle.piece_states.specs.PieceValue.{piece_of}
use Rattle.worker_texts.specs.declared.worker_text.WorkerText.{WorkerText}
use Rattle.worker_texts.specs.declared.worker_text.WorkerText.TheVariants as held
use Rattle.worker_texts.specs.declared.round.RoundTold.{RoundTold as RoundHeld}
use Rattle.worker_texts.specs.RoundText.{RoundTold}
use Rattle.worker_texts.specs.WorkerText.{WorkerTextTold, Round, Open}

-- what is told of the round
abbrev pub round_told : RoundHeld → RoundTold
round_told round = record { number = round.number; limit = round.limit; target = round.target.groups.items }

-- what the text tells
abbrev pub worker_text_of : WorkerText → WorkerTextTold
worker_text_of (held.Round round) = Round (round_told round)
worker_text_of (held.Open piece) = Open (piece_of piece)
