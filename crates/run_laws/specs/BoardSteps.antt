-- The steps that give a board: after the problem, a grouping and the events of a file are loaded and read.
use Rattle.std.specs.Prelude.{◌≡◌, ℕ, min, List, [], Option, Some, None, Result, Ok, Err}
use Rattle.std.specs.Borrow.{Bor}
use Rattle.grouping_laws.specs.Grouping.{Grouping}
use Rattle.county_problem.specs.ProblemValue.{ProblemValue, problem_of}
use Rattle.certificate_data.specs.Round as rounds
use Rattle.certificate_data.specs.declared.format.Format as format_type
use Rattle.certificate_data.specs.declared.format.Format.TheVariants as formats
use Rattle.certificate_lines.specs.declared.fault.TextFault.{TextFault}
use Rattle.board_laws.specs.Content.{Event}
use Rattle.share_board.specs.Rounds.{IsBoardFault}
use Rattle.share_board.specs.declared.fault.BoardFault.{BoardFault}
use Rattle.board_report.specs.EventSpelling.{EventsAreSpelled}
use Rattle.board_report.specs.EventFaults.{events_fault}
use Rattle.board_report.specs.Rounds.{IsFirstRound}
use Rattle.branch_bound.specs.Resuming.{longest}
use Rattle.cli_words.specs.declared.words.RoundWords.{RoundWords}
use Rattle.cli_words.specs.declared.words.RoundWords.TheVariants.{Plain, Wide}
use Rattle.cli_file_stores.specs.Files.{Files}
use Rattle.cli_answers.specs.Refusals.{events_answer}
use Rattle.run_laws.specs.Steps.{Steps, ◌>>=◌, load_step, call_step, optional_step}

-- the format of the rounds, and how many branchings stand above their pieces
abbrev pub format_of : RoundWords → format_type.Format
format_of (Plain limit depth) = formats.Plain
format_of (Wide limit) = formats.Wide

abbrev pub depth_of : RoundWords → ℕ
depth_of (Plain limit depth) = depth
depth_of (Wide limit) = 0

-- the limit of the first round: that of the words, else the longest group of the grouping; no limit is above 65,535
abbrev pub limit_of_words : Grouping → RoundWords → ℕ
limit_of_words g (Plain limit depth) = limit
limit_of_words g (Wide (Some limit)) = limit
limit_of_words g (Wide None) = min (longest g) 65535

-- the events that a text gives
abbrev pub AreEvents : format_type.Format → ℕ → List ℕ → Result (List Event) TextFault → Type 0
AreEvents format counties text (Ok events) = EventsAreSpelled format counties text events
AreEvents format counties text (Err fault) = events_fault format counties text ≡ Some fault

abbrev pub events_in : format_type.Format → ℕ → List ℕ → Steps (List Event)
events_in format counties text = call_step events_answer (AreEvents format counties text)

-- the events of a file, whose trees are of the format and for this number of counties
abbrev pub events_of : Option Files → format_type.Format → ℕ → List ℕ → Steps (List Event)
events_of files format counties name = load_step files name >>= events_in format counties

-- the events of a file that is named, else none
abbrev pub named_events_of : Option Files → format_type.Format → ℕ → Option (Bor (List ℕ)) → Steps (List Event)
named_events_of files format counties name = optional_step [] (events_of files format counties) name

-- What a board answers whose target is the grouping and whose first round is that of the words, or why there is no such
-- board.
abbrev pub AnswersOnBoard : {X : Type 0} → ProblemValue → Grouping → RoundWords → ℕ → (rounds.Round → X → Type 0)
    → Result X BoardFault → Type 0
AnswersOnBoard v g words budget P (Ok x) =
    (round : rounds.Round) × IsFirstRound (problem_of v) g (limit_of_words g words) (format_of words) round
    × P round x
AnswersOnBoard v g words budget P (Err fault) =
    (round : rounds.Round) × IsFirstRound (problem_of v) g (limit_of_words g words) (format_of words) round
    × IsBoardFault (problem_of v) (depth_of words) budget g round fault
