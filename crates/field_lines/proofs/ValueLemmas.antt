-- Values collected line by line: what a reading loop over `Lines::next_line` has found and what is left make the values
-- of the text.
use Rattle.std.proofs.Common.{◌≡◌, ℕ, ◌++◌, List, [], ◌∷◌, Option, Some, None, Result, Ok, Err, refl, sym, ap, ◌∙◌, append_assoc}
use Rattle.std.proofs.lemmas.List.{append-nil}
use Rattle.std.specs.List.{slice_get, filter_map, cons_option}
use Rattle.std.specs.Option.{option_map}
use Rattle.std.specs.Result.{result_ok, result_err}
use Rattle.field_lines.specs.Cut.{Line}
use Rattle.field_lines.specs.Values.{fault_on, value_on, unless_fault, values_of, with_value}
use Rattle.field_lines.specs.declared.fault.LineFault.{LineFault}

-- what a loop answers that has found some values, and goes on with further lines and then the fault of the cut
abbrev pub collect_values : {X K F : Type 0} → (List ℕ → Result X K) → (K → ℕ → F) → (LineFault → F) → List X → List Line → Option LineFault → Result (List X) F
collect_values read at_line at_cut found [] None = Ok found
collect_values read at_line at_cut found [] (Some fault) = Err (at_cut fault)
collect_values {X} {K} {F} read at_line at_cut found (l ∷ ls) fault = elim (with_value found (read l.bytes)) as (λ _. Result (List X) F) [
  | Ok more ↦ collect_values read at_line at_cut more ls fault
  | Err kind ↦ Err (at_line kind l.number)
]

-- values after those found
abbrev onto : {X F : Type 0} → List X → Result (List X) F → Result (List X) F
onto found (Ok values) = Ok (found ++ values)
onto found (Err fault) = Err fault

onto_next : {X F : Type 0} (found : List X) (x : X) (first later : Option F) (values : List X) → onto (found ++ x ∷ []) (unless_fault first later values) ≡ onto found (unless_fault first later (x ∷ values))
onto_next found x (Some fault) later values = refl
onto_next found x None (Some fault) values = refl
onto_next found x None None values = ap (λ l. Ok l) (append_assoc found (x ∷ []) values)

onto_nothing : {X F : Type 0} (r : Result (List X) F) → onto [] r ≡ r
onto_nothing (Ok values) = refl
onto_nothing (Err fault) = refl

module _ {X K F : Type 0} (read : List ℕ → Result X K) (at_line : K → ℕ → F) (at_cut : LineFault → F) (fault : Option LineFault) where
  -- the values of lines by what the first of them gives
  abbrev values_after : Result X K → ℕ → List Line → Result (List X) F
  values_after given number ls =
      unless_fault (option_map (λ f. at_line f.0 f.1) (slice_get (cons_option (option_map (λ kind. (kind, number)) (result_err given)) (filter_map (fault_on read) ls)) 0)) (option_map at_cut fault)
      (cons_option (result_ok given) (filter_map (value_on read) ls))

  -- a line in front of others
  line_in_front : (found : List X) (given : Result X K) (number : ℕ) (ls : List Line)
      → ((more : List X) → collect_values read at_line at_cut more ls fault ≡ onto more (values_of read at_line at_cut ls fault))
      → (elim (with_value found given) as (λ _. Result (List X) F) [
        | Ok more ↦ collect_values read at_line at_cut more ls fault
        | Err kind ↦ Err (at_line kind number)
      ]) ≡ onto found (values_after given number ls)
  line_in_front found (Ok x) number ls later = later (found ++ x ∷ []) ∙ onto_next found x _ _ _
  line_in_front found (Err kind) number ls later = refl

collected_onto : {X K F : Type 0} (read : List ℕ → Result X K) (at_line : K → ℕ → F) (at_cut : LineFault → F) (fault : Option LineFault) (ls : List Line) (found : List X)
    → collect_values read at_line at_cut found ls fault ≡ onto found (values_of read at_line at_cut ls fault)
collected_onto read at_line at_cut None [] found = ap (λ l. Ok l) (sym (append-nil found))
collected_onto read at_line at_cut (Some fault) [] found = refl
collected_onto read at_line at_cut fault (l ∷ ls) found = line_in_front read at_line at_cut fault found (read l.bytes) l.number ls (collected_onto read at_line at_cut fault ls)

-- a loop that has found nothing yet answers the values of the lines
pub collected : {X K F : Type 0} (read : List ℕ → Result X K) (at_line : K → ℕ → F) (at_cut : LineFault → F) (ls : List Line) (fault : Option LineFault)
    → collect_values read at_line at_cut [] ls fault ≡ values_of read at_line at_cut ls fault
collected read at_line at_cut ls fault = collected_onto read at_line at_cut fault ls [] ∙ onto_nothing (values_of read at_line at_cut ls fault)
