-- The round that a worker holds.
use Rattle.std.specs.Prelude.{◌≡◌, ◌≤◌, Option, Some, None, ⊤}
use Rattle.grouping_laws.specs.Problem.{Problem}
use Rattle.certificate_lines.specs.Lines.{most}
use Rattle.certificate_data.specs.declared.format.Format.TheVariants.{Wide}
use Rattle.certificate_data.specs.Round.{Round}
use Rattle.certificate_data.specs.RoundValue.{round_of}
use Rattle.share_board.specs.Spelling.{HasFiveDigits}
use Rattle.board_report.specs.Rounds.{round_by_code}
use Rattle.worker_texts.specs.RoundText.{RoundTold}
use Rattle.piece_worker.specs.declared.worker.NumberedRound.{NumberedRound}

-- the round that is told: its order is that of ascending codes, and it is wide
abbrev pub round_told : Problem → RoundTold → Round
round_told p told = round_by_code p told.target told.limit Wide

-- The numbers agree, and the round is the one that is told. Its limit and the codes of its counties are in the ranges
-- of their lines.
pub record IsRoundHeld (p : Problem) (told : RoundTold) (held : NumberedRound) : Type 0 where
  pub number : held.number ≡ told.number
  pub round : round_of held.round ≡ round_told p told
  pub small : told.limit ≤ most
  pub codes : HasFiveDigits p

-- a worker holds the round that was told last, if one was told
abbrev pub HoldsRound : Problem → Option RoundTold → Option NumberedRound → Type 0
HoldsRound p None None = ⊤
HoldsRound p (Some told) (Some held) = IsRoundHeld p told held
HoldsRound p last held = ⊥
