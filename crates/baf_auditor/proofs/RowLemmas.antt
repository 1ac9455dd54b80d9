-- Assignments collected line by line.
use Rattle.std.proofs.Common.{◌≡◌, ℕ, ◌+◌, ◌++◌, nat_le, Bool, true, false, List, [], ◌∷◌, length, Option, Some, None, Result, Ok, Err, refl, sym, ap, ◌∙◌, append_assoc, if◌then◌else◌}
use Rattle.std.proofs.lemmas.List.{append-nil, length-append}
use Rattle.std.specs.List.{filter_map, cons_option}
use Rattle.std.specs.Option.{option_map}
use Rattle.std.specs.Result.{result_ok}
use Rattle.field_lines.specs.Cut.{Line}
use Rattle.field_lines.specs.Values.{fault_or_later, unless_fault}
use Rattle.field_lines.specs.declared.fault.LineFault.{LineFault}
use Rattle.baf_auditor.specs.declared.assignments.Assignment.{Assignment}
use Rattle.baf_auditor.specs.declared.fault.AssignmentKind.{AssignmentKind}
use Rattle.baf_auditor.specs.declared.fault.AssignmentKind.TheVariants.{TooMany}
use Rattle.baf_auditor.specs.declared.fault.AssignmentFault.{AssignmentFault}
use Rattle.baf_auditor.specs.Assignments.{assignment_line_fault, assignment_cut_fault, assignment_on, most_assignments, row_fault, first_assignment_fault, rows_after, with_row}

-- what a loop answers that has found some assignments, and goes on with further lines and then the fault of the cut
abbrev pub collect_rows : ℕ → List Assignment → List Line → Option LineFault → Result (List Assignment) AssignmentFault
collect_rows delimiter found [] None = Ok found
collect_rows delimiter found [] (Some fault) = Err (assignment_cut_fault fault)
collect_rows delimiter found (l ∷ ls) fault = elim (with_row found (assignment_on delimiter l.bytes)) as (λ _. Result (List Assignment) AssignmentFault) [
  | Ok more ↦ collect_rows delimiter more ls fault
  | Err kind ↦ Err (assignment_line_fault kind l.number)
]

module _ (delimiter : ℕ) (fault : Option LineFault) where
  -- the assignments found, unless a line is at fault, or the cut after all of its lines
  abbrev rows_unless : Option (AssignmentKind × ℕ) → List Assignment → Result (List Assignment) AssignmentFault
  rows_unless first found = unless_fault (option_map (λ f. assignment_line_fault f.0 f.1) first) (option_map assignment_cut_fault fault) found

  row_added : (found : List Assignment) (a : Assignment) (number : ℕ) (ls : List Line) (full : Bool)
      → collect_rows delimiter (found ++ a ∷ []) ls fault ≡ rows_after delimiter (found ++ a ∷ []) ls fault
      → (elim (if full then Err TooMany else Ok (found ++ a ∷ [])) as (λ _. Result (List Assignment) AssignmentFault) [
        | Ok more ↦ collect_rows delimiter more ls fault
        | Err kind ↦ Err (assignment_line_fault kind number)
      ]) ≡ rows_unless (fault_or_later number (if full then Some TooMany else None) (first_assignment_fault delimiter (length found + 1) ls)) (found ++ a ∷ filter_map (λ (l : Line). result_ok (assignment_on delimiter l.bytes)) ls)
  row_added found a number ls true later = refl
  row_added found a number ls false later =
      later
      ∙ ap (λ (n : ℕ). rows_unless (first_assignment_fault delimiter n ls) ((found ++ a ∷ []) ++ filter_map (λ (l : Line). result_ok (assignment_on delimiter l.bytes)) ls)) (length-append found (a ∷ []))
      ∙ ap (λ (more : List Assignment). rows_unless (first_assignment_fault delimiter (length found + 1) ls) more) (append_assoc found (a ∷ []) (filter_map (λ (l : Line). result_ok (assignment_on delimiter l.bytes)) ls))

  row_in_front : (found : List Assignment) (given : Result Assignment AssignmentKind) (number : ℕ) (ls : List Line)
      → ((more : List Assignment) → collect_rows delimiter more ls fault ≡ rows_after delimiter more ls fault)
      → (elim (with_row found given) as (λ _. Result (List Assignment) AssignmentFault) [
        | Ok more ↦ collect_rows delimiter more ls fault
        | Err kind ↦ Err (assignment_line_fault kind number)
      ]) ≡ rows_unless (fault_or_later number (row_fault (length found) given) (first_assignment_fault delimiter (length found + 1) ls)) (found ++ cons_option (result_ok given) (filter_map (λ (l : Line). result_ok (assignment_on delimiter l.bytes)) ls))
  row_in_front found (Ok a) number ls later = row_added found a number ls (nat_le most_assignments (length found)) (later (found ++ a ∷ []))
  row_in_front found (Err kind) number ls later = refl

-- a loop answers the assignments found and those of the lines that are left
pub collected : (delimiter : ℕ) (fault : Option LineFault) (ls : List Line) (found : List Assignment) → collect_rows delimiter found ls fault ≡ rows_after delimiter found ls fault
collected delimiter None [] found = ap (λ (l : List Assignment). Ok l) (sym (append-nil found))
collected delimiter (Some fault) [] found = refl
collected delimiter fault (l ∷ ls) found = row_in_front delimiter fault found (assignment_on delimiter l.bytes) l.number ls (collected delimiter fault ls)
