-- The values of the lines of a text, or its first fault.
use Rattle.std.specs.Prelude.{◌≡◌, ℕ, List, [], ◌∷◌, ◌++◌, Option, Some, None, Result, Ok, Err}
use Rattle.std.specs.List.{slice_get, filter_map}
use Rattle.std.specs.Option.{option_map}
use Rattle.std.specs.Result.{result_ok, result_err}
use Rattle.field_lines.specs.Cut.{Line}
use Rattle.field_lines.specs.declared.fault.LineFault.{LineFault}

-- what is wrong with a line, and its number
abbrev pub fault_on : {X K : Type 0} → (List ℕ → Result X K) → Line → Option (K × ℕ)
fault_on read line = option_map (λ kind. (kind, line.number)) (result_err (read line.bytes))

-- the value of a line, where nothing is wrong with it
abbrev pub value_on : {X K : Type 0} → (List ℕ → Result X K) → Line → Option X
value_on read line = result_ok (read line.bytes)

-- the values, unless a line is at fault, or the cut after all of its lines
abbrev pub unless_fault : {X F : Type 0} → Option F → Option F → List X → Result (List X) F
unless_fault (Some fault) later values = Err fault
unless_fault None (Some fault) values = Err fault
unless_fault None None values = Ok values

-- The values of lines in their order, or the first fault: that of the first line at fault as `at_line` says it, else
-- that of the cut as `at_cut` says it.
abbrev pub values_of : {X K F : Type 0} → (List ℕ → Result X K) → (K → ℕ → F) → (LineFault → F) → List Line
    → Option LineFault → Result (List X) F
values_of read at_line at_cut lines fault =
    unless_fault (option_map (λ f. at_line f.0 f.1) (slice_get (filter_map (fault_on read) lines) 0))
    (option_map at_cut fault) (filter_map (value_on read) lines)

-- what is wrong with the line of a number, and the number, or else the later fault
abbrev pub fault_or_later : {K : Type 0} → ℕ → Option K → Option (K × ℕ) → Option (K × ℕ)
fault_or_later number (Some kind) later = Some (kind, number)
fault_or_later number None later = later

-- What is wrong with the first line at fault, and its number, if earlier lines count: `judge` says what is wrong with a
-- line after what was read before it, and `read` what has been read with it.
abbrev pub first_fault_after : {S K : Type 0} → (judge : S → Line → Option K) → (read : S → Line → S) → S → List Line
    → Option (K × ℕ)
first_fault_after judge read before [] = None
first_fault_after judge read before (l ∷ ls) =
    fault_or_later l.number (judge before l) (first_fault_after judge read (read before l) ls)

-- the values of the lines before with that of a further line, unless it is at fault
abbrev pub with_value : {X K : Type 0} → List X → Result X K → Result (List X) K
with_value before (Ok x) = Ok (before ++ x ∷ [])
with_value before (Err kind) = Err kind

-- the value of a further line was added to a list, or the line is at fault, unless memory was refused
abbrev pub AddsUnless : {X K : Type 0} → (K → Type 0) → List X → Result X K → Result (Unit {0}) K → List X → Type 0
AddsUnless Refused before given (Ok done) after = with_value before given ≡ Ok after
AddsUnless Refused before given (Err kind) after = (Refused kind → ⊥) → with_value before given ≡ Err kind

-- a reader answered what is given, seen by `view`, unless it was refused
abbrev pub GivesUnless : {X Y F : Type 0} → (F → Type 0) → (X → Y) → Result X F → Result Y F → Type 0
GivesUnless Refused view (Ok x) given = given ≡ Ok (view x)
GivesUnless Refused view (Err fault) given = (Refused fault → ⊥) → given ≡ Err fault

-- a reader's answer, seen by `view`, is one of those meant, unless it was refused
abbrev pub AnswersUnless : {X Y F : Type 0} → (F → Type 0) → (X → Y) → Result X F → (Result Y F → Type 0) → Type 0
AnswersUnless Refused view (Ok x) Meant = Meant (Ok (view x))
AnswersUnless Refused view (Err fault) Meant = (Refused fault → ⊥) → Meant (Err fault)
