-- The codes of a set of places, one place after another, and a code that stands at no place.
use Rattle.std.proofs.Common.{◌≡◌, ℕ, ◌+◌, ◌<◌, Bool, true, false, cond, List, [], ◌∷◌, ◌++◌, append-nil, length, refl, sym, ap, ◌∙◌}
use Rattle.std.proofs.lemmas.List.{map-append}
use Rattle.place_sets.specs.PlaceSets.{places_of}
use Rattle.place_sets.proofs.PlaceSums.{places_step}
use Rattle.grouping_laws.specs.Sets.{contains}
use Rattle.grouping_laws.specs.GroupsFrom.{place}
use Rattle.grouping_laws.specs.Places.{codes_at}
use Rattle.grouping_laws.specs.PlaceProblem.{code_at}
use Rattle.grouping_laws.proofs.Places.{places_are_codes}

-- one more place of a set, whose code is put behind the others
pub codes_in : (order : List ℕ) (t : ℕ → Bool) (i : ℕ) (code : ℕ) (olds news : List ℕ) → t i ≡ true → code ≡ code_at order i → news ≡ olds ++ code ∷ [] → olds ≡ codes_at order (places_of i t) → news ≡ codes_at order (places_of (i + 1) t)
codes_in order t i code olds news has is push e =
    push
    ∙ (ap (λ z. z ++ code ∷ []) e
    ∙ (ap (λ z. codes_at order (places_of i t) ++ z ∷ []) is
    ∙ (sym (map-append (code_at order) (places_of i t) (i ∷ []))
    ∙ sym (ap (codes_at order) (places_step t i ∙ ap (λ b. places_of i t ++ cond b (i ∷ []) []) has)))))

-- one more place that the set lacks
pub codes_out : (order : List ℕ) (t : ℕ → Bool) (i : ℕ) (olds : List ℕ) → t i ≡ false → olds ≡ codes_at order (places_of i t) → olds ≡ codes_at order (places_of (i + 1) t)
codes_out order t i olds has e =
    e ∙ sym (ap (codes_at order) (places_step t i ∙ (ap (λ b. places_of i t ++ cond b (i ∷ []) []) has ∙ append-nil (places_of i t))))

-- a code that stands at no place is no code of the order
pub at_no_place : (order : List ℕ) (c : ℕ) → ((k : ℕ) → k < length order → code_at order k ≡ c → ⊥) → contains order c ≡ false
at_no_place order c none = go (contains order c) refl
  where
    go : (b : Bool) → contains order c ≡ b → b ≡ false
    go false e = refl
    go true e = let r = places_are_codes.there order c e in absurd (none (place order c) r.0 r.1)
