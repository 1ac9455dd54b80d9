-- What the lines of a round tell, or their first fault.
use Rattle.std.specs.Prelude.{ℕ, zero, suc, ◌+◌, List, [], ◌∷◌, ◌++◌, codes, Result, Ok, Err}
use Rattle.field_lines.specs.Chain.{◌>>=◌}
use Rattle.field_lines.specs.RawPieces.{RawLine}
use Rattle.grouping_laws.specs.Grouping.{Grouping}
use Rattle.certificate_lines.specs.Items.{by_words}
use Rattle.certificate_lines.specs.Lines.{most, named, counted, number_at, group_on}
use Rattle.certificate_lines.specs.Rest.{text_fault_at}
use Rattle.certificate_lines.specs.declared.fault.TextFault.{TextFault}
use Rattle.certificate_lines.specs.declared.fault.TextKind.{TextKind}
use Rattle.certificate_lines.specs.declared.fault.TextKind.TheVariants.{CutShort}
use Rattle.piece_states.specs.TextLines.{greatest}
use Rattle.worker_texts.specs.RoundText.{RoundTold}

-- the first line: the number, the limit, and how many groups follow
unfoldable pub round_on : List (List ℕ) → Result (ℕ × ℕ × ℕ) TextKind
round_on line = do
  words ← named (codes "round") line
  words ← counted 3 3 words
  number ← number_at 0 greatest words
  limit ← number_at 0 most number.1
  groups ← number_at 0 most limit.1
  Ok (number.0, limit.0, groups.0)

-- groups in front of those on later lines
abbrev pub groups_before : Grouping → Result Grouping TextFault → Result Grouping TextFault
groups_before groups (Ok later) = Ok (groups ++ later)
groups_before groups (Err fault) = Err fault

-- the groups on this number of lines, the first of which has the number n, or the first fault
abbrev pub groups_from : ℕ → ℕ → List RawLine → Result Grouping TextFault
groups_from zero n pieces = Ok []
groups_from (suc left) n [] = Err (text_fault_at CutShort n)
groups_from (suc left) n (piece ∷ pieces) =
    elim (by_words group_on piece) as (λ _. Result Grouping TextFault) [
      | Ok group ↦ groups_before (group ∷ []) (groups_from left (n + 1) pieces)
      | Err kind ↦ Err (text_fault_at kind n)
    ]

-- the round whose first line names its number and its limit
abbrev pub round_with : ℕ × ℕ × ℕ → Result Grouping TextFault → Result RoundTold TextFault
round_with first (Ok target) = Ok (record { number = first.0; limit = first.1; target = target })
round_with first (Err fault) = Err fault

-- the round that lines tell at their front, or the first fault
abbrev pub round_from : List RawLine → Result RoundTold TextFault
round_from [] = Err (text_fault_at CutShort 1)
round_from (piece ∷ pieces) =
    elim (by_words round_on piece) as (λ _. Result RoundTold TextFault) [
      | Ok first ↦ round_with first (groups_from first.2 2 pieces)
      | Err kind ↦ Err (text_fault_at kind 1)
    ]
