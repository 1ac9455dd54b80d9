-- What a checker answers of a text.
use Rattle.std.specs.Prelude.{ℕ, ◌+◌, ◌≡◌, ◌<◌, ◌≤◌, Bool, true, false, List, ◌++◌, length, Some, Result, Err, IfOk}
use Rattle.std.specs.Prelude.{◌⊎◌, ⊤}
use Rattle.grouping_laws.specs.Problem.{Problem}
use Rattle.grouping_laws.specs.Grouping.{IsBest, IsImpossible}
use Rattle.field_lines.specs.Source.{Given}
use Rattle.field_lines.specs.HeldBytes.{MayCome}
use Rattle.certificate_lines.specs.ItemReadings.{certificate_reading}
use Rattle.certificate_lines.specs.ItemsLeft.{ItemsLeft, Foresees, reading_by}
use Rattle.certificate_lines.specs.declared.fault.TextFault.{TextFault}
use Rattle.std.specs.declared.alloc.AllocError.{AllocError}
use Rattle.checker_laws.specs.Fault.{Fault}
use Rattle.checker_laws.specs.Verdict as said
use Rattle.checker_laws.specs.TextVerdict.{HasTextFault, IsTextVerdict}
use Rattle.checker_laws.specs.TextCost.{TextCosts}
use Rattle.state_judge.specs.CheckFaults.{fault_of}
use Rattle.state_judge.specs.declared.fault.CheckFault.{CheckFault}
use Rattle.state_judge.specs.declared.fault.CheckFault.TheVariants.{Text}
use Rattle.certificate_checker.specs.declared.fault.CheckStop.{CheckStop}
use Rattle.certificate_checker.specs.declared.fault.CheckStop.TheVariants as stop
use Rattle.certificate_checker.specs.declared.verdict.Verdict.{Verdict}
use Rattle.certificate_checker.specs.declared.verdict.Verdict.TheVariants.{Best, Impossible, No, Budget}

-- the grouping that is named is lawful, and no lawful one is greater
abbrev pub CheckIsRight : Problem → Verdict → Type 0
CheckIsRight p (Best target) = IsBest p target.groups.items
CheckIsRight p _ = ⊤

-- no grouping is lawful
abbrev pub ShowsImpossible : Problem → Verdict → Type 0
ShowsImpossible p Impossible = IsImpossible p
ShowsImpossible p _ = ⊤

-- the first fault of the text, or that of the certificate which it spells
abbrev pub IsRefusal : Problem → List ℕ → CheckFault → ℕ → Type 0
IsRefusal p text fault line =
    ((words : TextFault) × (fault ≡ Text words) × HasTextFault text words × (line ≡ words.line))
    ⊎ ((named : Fault) × (fault_of fault ≡ Some named) × IsTextVerdict p text (said.No named line))

-- the verdict of the text, or that the budget is below its cost
abbrev pub IsCheckAnswer : Problem → List ℕ → ℕ → Verdict → Type 0
IsCheckAnswer p text budget (Best target) = IsTextVerdict p text (said.Best target.groups.items)
IsCheckAnswer p text budget Impossible = IsTextVerdict p text said.Impossible
IsCheckAnswer p text budget (No fault line) = IsRefusal p text fault line
IsCheckAnswer p text budget Budget = (cost : ℕ) → TextCosts p text cost → budget < cost

-- how many lines of a text stand in front of its end, or of the first fault of its words
abbrev pub lines_in_front : List ℕ → ℕ
lines_in_front text = length (certificate_reading text).items

-- An answer other than Budget comes only where the lines in front, with one more for the end or for the line at fault,
-- are no more than the budget.
abbrev pub IsWithinBudget : ℕ → ℕ → Verdict → Type 0
IsWithinBudget lines budget (Best target) = lines + 1 ≤ budget
IsWithinBudget lines budget Impossible = lines + 1 ≤ budget
IsWithinBudget lines budget (No fault line) = lines + 1 ≤ budget
IsWithinBudget lines budget Budget = ⊤

-- the verdict of the text, where its lines are within the budget
abbrev pub IsBudgetedAnswer : Problem → List ℕ → ℕ → Verdict → Type 0
IsBudgetedAnswer p text budget verdict =
    IsCheckAnswer p text budget verdict × IsWithinBudget (lines_in_front text) budget verdict

-- What was read of items comes to an answer, or was refused: whatever text the source may give in the end, it might
-- give it before, and where its items are those of a certificate's text the answer is the verdict on this.
abbrev pub ChecksItems : Problem → ItemsLeft → Given → ℕ → Result Verdict AllocError → Given → Type 0
ChecksItems p left before budget result after =
    (all : List ℕ) → Foresees after all
    → Foresees before all
    × ((text : List ℕ) → reading_by left before all ≡ certificate_reading text
    → IfOk result (IsBudgetedAnswer p text budget))

-- The source gave bytes meanwhile. They have this verdict, with whatever bytes may come later: with none, if the source
-- has ended.
pub record ChecksBytes (p : Problem) (before after : Given) (budget : ℕ) (verdict : Verdict) : Type 0 where
  pub pulled : List ℕ
  pub given : after.bytes ≡ before.bytes ++ pulled
  pub answer : (later : List ℕ) → MayCome after.ended later → IsCheckAnswer p (pulled ++ later) budget verdict
  pub within : (later : List ℕ) → MayCome after.ended later
      → IsWithinBudget (lines_in_front (pulled ++ later)) budget verdict

-- the source could not be read
abbrev pub is_read_fault : {A : Type 0} → Result A CheckStop → Bool
is_read_fault (Err stop.ReadFault) = true
is_read_fault _ = false
