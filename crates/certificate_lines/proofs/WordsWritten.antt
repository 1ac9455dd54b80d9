-- Lines of words as they are written.
use Rattle.std.proofs.Common.{◌≡◌, ℕ, ◌≤◌, List, [], ◌∷◌, ◌++◌, map, All, codes, ap, sym, ◌∙◌, append_assoc, append-nil}
use Rattle.std.specs.Fmt.{decimal}
use Rattle.std.specs.List.{flat_map, join_with_byte}
use Rattle.std.proofs.lemmas.List.Elements.{recursion_from_All}
use Rattle.county_codes.specs.Digits.{five_digits}
use Rattle.certificate_lines.specs.Spelling.{weight_word, item_words}
use Rattle.certificate_lines.specs.Fitting.{AreCodes}
use Rattle.certificate_data.specs.declared.weights.Weight.{Weight}
use Rattle.certificate_data.specs.declared.allowance.Allowance.TheVariants.{Weigh}
use Rattle.certificate_lines.specs.declared.item.Item.TheVariants.{Allows}

-- words, each after a blank, as they are joined
pub joined : {X : Type 0} (word : X → List ℕ) (first : List ℕ) (xs : List X) → join_with_byte 32 (first ∷ map word xs) ≡ first ++ flat_map (λ x. 32 ∷ word x) xs
joined word first [] = sym (append-nil first)
joined word first (x ∷ xs) = ap (λ (l : List ℕ). first ++ 32 ∷ l) (joined word (word x) xs)

-- codes after a name, as they are joined
pub codes_line : (name cs : List ℕ) → join_with_byte 32 (name ∷ map five_digits cs) ++ 10 ∷ [] ≡ name ++ (flat_map (λ c. 32 ∷ five_digits c) cs ++ 10 ∷ [])
codes_line name cs = ap (λ (l : List ℕ). l ++ 10 ∷ []) (joined five_digits name cs) ∙ append_assoc name (flat_map (λ c. 32 ∷ five_digits c) cs) (10 ∷ [])

-- weights after a quota
pub weights_line : (quota : ℕ) (ws : List Weight) → join_with_byte 32 (item_words (Allows (Weigh quota ws))) ≡ codes "weigh " ++ (decimal quota ++ flat_map (λ w. 32 ∷ weight_word w) ws)
weights_line quota ws = ap (λ (l : List ℕ). codes "weigh " ++ l) (joined weight_word (decimal quota) ws)

pub are_codes : (cs : List ℕ) → All (λ c. c ≤ 99999) cs → AreCodes cs
are_codes cs small = recursion_from_All (λ c. c ≤ 99999) cs small
