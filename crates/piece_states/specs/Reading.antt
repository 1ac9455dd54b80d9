-- What the lines of an open piece tell, or their first fault.
use Rattle.std.specs.Prelude.{ℕ, ◌+◌, ◌≤◌, Bool, true, false, List, [], ◌∷◌, ◌++◌, Result, Ok, Err}
use Rattle.std.specs.List.{AllByRecursion}
use Rattle.field_lines.specs.RawPieces.{RawLine, raw_lines}
use Rattle.certificate_lines.specs.Fitting.{IsSet}
use Rattle.certificate_lines.specs.Items.{by_words}
use Rattle.certificate_lines.specs.Rest.{text_fault_at}
use Rattle.certificate_lines.specs.declared.fault.TextFault.{TextFault}
use Rattle.certificate_lines.specs.declared.fault.TextKind.TheVariants.{CutShort}
use Rattle.piece_states.specs.declared.line.ToldLine.{ToldLine}
use Rattle.piece_states.specs.declared.line.ToldLine.TheVariants.{Closed, Least, End}
use Rattle.piece_states.specs.Told.{Asked, Told}
use Rattle.piece_states.specs.PieceValue.{asked_of, PieceTold}
use Rattle.piece_states.specs.TextLines.{greatest, greatest_size, open_on, told_on}

-- groups and counties that ask, in front of those that are told later
abbrev pub told_behind : List (List ℕ) → List Asked → Result Told TextFault → Result Told TextFault
told_behind groups asked (Ok later) = Ok (record { closed = groups ++ later.closed; asked = asked ++ later.asked })
told_behind groups asked (Err fault) = Err fault

-- what a line tells with the lines behind it: `same` if closed groups may stand there as before, `none` if none may
abbrev pub told_with : ToldLine → Result Told TextFault → Result Told TextFault → Result Told TextFault
told_with (Closed group) same none = told_behind (group ∷ []) [] same
told_with (Least asked) same none = told_behind [] (asked_of asked ∷ []) none
told_with End same none = Ok (record { closed = []; asked = [] })

-- what is told on lines, the first of which has the number n; `closing` says whether closed groups may stand there
abbrev pub told_from : Bool → ℕ → List RawLine → Result Told TextFault
told_from closing n [] = Err (text_fault_at CutShort n)
told_from closing n (piece ∷ pieces) =
    elim (by_words (told_on closing) piece) as (λ _. Result Told TextFault) [
      | Ok line ↦ told_with line (told_from closing (n + 1) pieces) (told_from false (n + 1) pieces)
      | Err kind ↦ Err (text_fault_at kind n)
    ]

-- the piece whose first line names its round and its number
abbrev pub piece_with : ℕ × ℕ → Result Told TextFault → Result PieceTold TextFault
piece_with first (Ok told) = Ok (record { round = first.0; piece = first.1; told = told })
piece_with first (Err fault) = Err fault

abbrev pub piece_from : List RawLine → Result PieceTold TextFault
piece_from [] = Err (text_fault_at CutShort 1)
piece_from (piece ∷ pieces) =
    elim (by_words open_on piece) as (λ _. Result PieceTold TextFault) [
      | Ok first ↦ piece_with first (told_from true 2 pieces)
      | Err kind ↦ Err (text_fault_at kind 1)
    ]

-- the open piece with which a text begins, or the first fault
abbrev pub piece_in : List ℕ → Result PieceTold TextFault
piece_in text = piece_from (raw_lines text)

-- the county and the size are in the ranges of their line
abbrev pub FitsAsked : Asked → Type 0
FitsAsked a = (a.county ≤ 99999) × (1 ≤ a.size) × (a.size ≤ greatest_size)

-- all numbers are in the ranges of their lines, and each closed group has from 1 to 256 codes
pub record HasText (piece : PieceTold) : Type 0 where
  pub round : piece.round ≤ greatest
  pub number : piece.piece ≤ greatest
  pub closed : AllByRecursion IsSet piece.told.closed
  pub asked : AllByRecursion FitsAsked piece.told.asked
