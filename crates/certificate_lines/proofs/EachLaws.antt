-- Values collected word by word.
use Rattle.std.proofs.Common.{◌≡◌, ℕ, List, [], ◌∷◌, ◌++◌, Result, Ok, Err, refl, ap, sym, ◌∙◌, append_assoc, append-nil}
use Rattle.field_lines.specs.Chain.{◌>>=◌}
use Rattle.certificate_lines.specs.Lines.{each}
use Rattle.certificate_lines.specs.declared.fault.TextKind.{TextKind}

module _ {X : Type 0} (read : List ℕ → Result X TextKind) where
  -- the values found, and those of further words, each in turn
  abbrev pub collect : List X → List (List ℕ) → Result (List X) TextKind
  collect found [] = Ok found
  collect found (word ∷ words) = elim (read word) as (λ _. Result (List X) TextKind) [
    | Ok x ↦ collect (found ++ x ∷ []) words
    | Err kind ↦ Err kind
  ]

  -- the values after those found
  abbrev onto : List X → Result (List X) TextKind → Result (List X) TextKind
  onto found (Ok xs) = Ok (found ++ xs)
  onto found (Err kind) = Err kind

  onto_next : (found : List X) (x : X) (later : Result (List X) TextKind) → onto (found ++ x ∷ []) later ≡ onto found (later >>= λ xs. Ok (x ∷ xs))
  onto_next found x (Ok xs) = ap (λ (l : List X). Ok l) (append_assoc found (x ∷ []) xs)
  onto_next found x (Err kind) = refl

  onto_word : (found : List X) (r : Result X TextKind) (words : List (List ℕ))
      → ((x : X) → collect (found ++ x ∷ []) words ≡ onto (found ++ x ∷ []) (each read words))
      → (elim r as (λ _. Result (List X) TextKind) [ Ok x ↦ collect (found ++ x ∷ []) words | Err kind ↦ Err kind ]) ≡ onto found (r >>= λ x. (each read words >>= λ xs. Ok (x ∷ xs)))
  onto_word found (Ok x) words later = later x ∙ onto_next found x (each read words)
  onto_word found (Err kind) words later = refl

  collected_onto : (found : List X) (words : List (List ℕ)) → collect found words ≡ onto found (each read words)
  collected_onto found [] = ap (λ (l : List X). Ok l) (sym (append-nil found))
  collected_onto found (word ∷ words) = onto_word found (read word) words (λ x. collected_onto (found ++ x ∷ []) words)

  onto_nothing : (r : Result (List X) TextKind) → onto [] r ≡ r
  onto_nothing (Ok xs) = refl
  onto_nothing (Err kind) = refl

  -- the values of all words
  pub collected : (words : List (List ℕ)) → collect [] words ≡ each read words
  collected words = collected_onto [] words ∙ onto_nothing (each read words)
