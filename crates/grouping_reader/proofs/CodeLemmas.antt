-- Codes collected field by field.
use Rattle.std.proofs.Common.{◌≡◌, ℕ, ◌++◌, List, [], ◌∷◌, Option, Some, None, Result, Ok, Err, refl, sym, ap, ◌∙◌, append_assoc}
use Rattle.std.proofs.lemmas.List.{append-nil}
use Rattle.std.specs.Option.{ok_or}
use Rattle.field_lines.specs.Chain.{◌>>=◌}
use Rattle.field_lines.specs.Number.{digits_of}
use Rattle.grouping_reader.specs.SeatLine.{codes_on}
use Rattle.grouping_reader.specs.declared.fault.CodeLineKind.{CodeLineKind}
use Rattle.grouping_reader.specs.declared.fault.CodeLineKind.TheVariants.{BadCode}

-- the codes found, and those of further fields, each in turn
abbrev pub collect_codes : List ℕ → List (List ℕ) → Result (List ℕ) CodeLineKind
collect_codes found [] = Ok found
collect_codes found (field ∷ fields) = elim (digits_of 5 field) as (λ _. Result (List ℕ) CodeLineKind) [
  | Some code ↦ collect_codes (found ++ code ∷ []) fields
  | None ↦ Err BadCode
]

-- the codes after those found
abbrev onto : List ℕ → Result (List ℕ) CodeLineKind → Result (List ℕ) CodeLineKind
onto found (Ok codes) = Ok (found ++ codes)
onto found (Err fault) = Err fault

onto_next : (found : List ℕ) (code : ℕ) (later : Result (List ℕ) CodeLineKind)
    → onto (found ++ code ∷ []) later ≡ onto found (do
      codes ← later
      Ok (code ∷ codes))
onto_next found code (Ok codes) = ap (λ (l : List ℕ). Ok l) (append_assoc found (code ∷ []) codes)
onto_next found code (Err fault) = refl

onto_nothing : (r : Result (List ℕ) CodeLineKind) → onto [] r ≡ r
onto_nothing (Ok codes) = refl
onto_nothing (Err fault) = refl

-- one more field, by the number that it spells
onto_field : (found : List ℕ) (number : Option ℕ) (fields : List (List ℕ))
    → ((code : ℕ) → collect_codes (found ++ code ∷ []) fields ≡ onto (found ++ code ∷ []) (codes_on fields))
    → (elim number as (λ _. Result (List ℕ) CodeLineKind) [
      | Some code ↦ collect_codes (found ++ code ∷ []) fields
      | None ↦ Err BadCode
    ]) ≡ onto found (do
      code ← ok_or number BadCode
      codes ← codes_on fields
      Ok (code ∷ codes))
onto_field found (Some code) fields later = later code ∙ onto_next found code (codes_on fields)
onto_field found None fields later = refl

collected_onto : (found : List ℕ) (fields : List (List ℕ)) → collect_codes found fields ≡ onto found (codes_on fields)
collected_onto found [] = ap (λ (l : List ℕ). Ok l) (sym (append-nil found))
collected_onto found (field ∷ fields) = onto_field found (digits_of 5 field) fields (λ (code : ℕ). collected_onto (found ++ code ∷ []) fields)

-- the codes of all fields
pub collected : (fields : List (List ℕ)) → collect_codes [] fields ≡ codes_on fields
collected fields = collected_onto [] fields ∙ onto_nothing (codes_on fields)
