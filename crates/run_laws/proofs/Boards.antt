-- Why there is no board for the words of a command.
use Rattle.std.proofs.Common.{◌≡◌, ℕ, subst, subst₂}
use Rattle.std.specs.Prelude.{Result, Ok, Err, IfErr, MatchResult}
use Rattle.grouping_laws.specs.Grouping.{Grouping}
use Rattle.county_problem.specs.ProblemValue.{ProblemValue, problem_of}
use Rattle.certificate_data.specs.Round as rounds
use Rattle.certificate_data.specs.declared.format.Format as format_type
use Rattle.share_board.specs.Rounds.{IsBoardFault}
use Rattle.share_board.specs.declared.fault.BoardFault.{BoardFault}
use Rattle.board_report.specs.Rounds.{IsFirstRound}
use Rattle.cli_words.specs.declared.words.RoundWords.{RoundWords}
use Rattle.run_laws.specs.BoardSteps.{format_of, depth_of, limit_of_words, AnswersOnBoard}

-- a fault of the board whose first round is so is one of the board of the words
pub no_board : {X : Type 0} (v : ProblemValue) (g : Grouping) (words : RoundWords) (budget : ℕ) (P Q : rounds.Round → X → Type 0) (format : format_type.Format) (limit depth : ℕ) (result : Result X BoardFault)
    → format ≡ format_of words → limit ≡ limit_of_words g words → depth ≡ depth_of words
    → ((round : rounds.Round) × IsFirstRound (problem_of v) g limit format round × MatchResult result (Q round) (IsBoardFault (problem_of v) depth budget g round))
    → IfErr result (λ fault. AnswersOnBoard v g words budget P (Err fault))
no_board v g words budget P Q format limit depth (Ok x) e f d h = tt
no_board v g words budget P Q format limit depth (Err fault) e f d h = (
  h.0,
  subst₂ (λ (l : format_type.Format) (n : ℕ). IsFirstRound (problem_of v) g n l h.0) e f h.1,
  subst (λ (n : ℕ). IsBoardFault (problem_of v) n budget g h.0 fault) d h.2,
)
