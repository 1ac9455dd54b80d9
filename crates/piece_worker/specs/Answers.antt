-- What is said of open pieces.
use Rattle.std.specs.Prelude.{ℕ, ◌≡◌, ◌⊎◌, List, [], ◌∷◌, ◌++◌, codes, Option, Some, None}
use Rattle.grouping_laws.specs.Problem.{Problem}
use Rattle.certificate_data.specs.Round.{Round as RoundValue}
use Rattle.certificate_laws.specs.State.{State}
use Rattle.piece_states.specs.Told.{state_told}
use Rattle.piece_states.specs.PieceValue.{PieceTold}
use Rattle.piece_states.specs.RoundStates.{IsTold}
use Rattle.worker_texts.specs.RoundText.{RoundTold}
use Rattle.worker_texts.specs.WorkerText.{WorkerTextTold, Round, Open}
use Rattle.branch_bound.specs.Pieces.{IsPieceAnswer}
use Rattle.branch_bound.specs.declared.piece_answer.PieceAnswer.{PieceAnswer}
use Rattle.board_report.specs.PieceText.{piece_text_of}
use Rattle.piece_worker.specs.Rounds.{round_told}

-- A piece can be proved: its round is the one that was told last, and what is told of the piece is a state of it.
pub record CanProve (p : Problem) (last : Option RoundTold) (piece : PieceTold) : Type 0 where
  pub told : RoundTold
  pub told_is : last ≡ Some told
  pub same : piece.round ≡ told.number
  pub state : IsTold p p.counties (round_told p told) piece.told

-- the text of an answer of the solver at a state of a round
abbrev pub IsAnswerAt : Problem → RoundValue → State → (number piece : ℕ) → List ℕ → Type 0
IsAnswerAt p round s number piece text =
    (answer : PieceAnswer) × IsPieceAnswer p round s answer × (text ≡ piece_text_of number piece answer)

-- the text for a piece of a round, exactly where what is told of the piece is a state of the round
abbrev pub IsAnswerIn : Problem → RoundValue → PieceTold → Option (List ℕ) → Type 0
IsAnswerIn p round piece None = ¬ IsTold p round.order round piece.told
IsAnswerIn p round piece (Some text) =
    IsTold p round.order round piece.told
    × IsAnswerAt p round (state_told p piece.told) piece.round piece.piece text

-- the text for a piece, exactly where it can be proved
abbrev pub IsAnswerIfAny : Problem → Option RoundTold → PieceTold → Option (List ℕ) → Type 0
IsAnswerIfAny p last piece None = ¬ CanProve p last piece
IsAnswerIfAny p last piece (Some text) =
    (can : CanProve p last piece)
    × IsAnswerAt p (round_told p can.told) (state_told p piece.told) piece.round piece.piece text

-- what is said of a piece: the solver's answer at the state that is told, or that there is no such piece
abbrev pub IsAnswer : Problem → Option RoundTold → PieceTold → List ℕ → Type 0
IsAnswer p last piece text =
    ((can : CanProve p last piece)
    × IsAnswerAt p (round_told p can.told) (state_told p piece.told) piece.round piece.piece text)
    ⊎ ((¬ CanProve p last piece) × (text ≡ codes "no such piece\n"))

-- what is written of a piece: what is said of it, and a line `end`
abbrev pub IsEndedAnswer : Problem → Option RoundTold → PieceTold → List ℕ → Type 0
IsEndedAnswer p last piece text =
    (said : List ℕ) × IsAnswer p last piece said × (text ≡ said ++ codes "end\n")

-- What is written of texts in turn. A round is kept, and nothing is written of it. Of a piece its answer is written,
-- and then a line `end`.
abbrev pub AnswersTexts : Problem → Option RoundTold → List WorkerTextTold → List ℕ → Option RoundTold → Type 0
AnswersTexts p last [] text end = (text ≡ []) × (end ≡ last)
AnswersTexts p last (Round told ∷ texts) text end = AnswersTexts p (Some told) texts text end
AnswersTexts p last (Open piece ∷ texts) text end =
    (first : List ℕ) × (later : List ℕ) × IsAnswer p last piece first × AnswersTexts p last texts later end
    × (text ≡ first ++ codes "end\n" ++ later)
