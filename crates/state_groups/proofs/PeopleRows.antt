-- The places of a set with their people, one after another, and then sorted by people.
use Rattle.std.proofs.Common.{◌≡◌, ℕ, zero, suc, ◌+◌, ◌≤◌, ◌<◌, ◌==◌, Bool, true, false, cond, List, [], ◌∷◌, ◌++◌, map, length, refl, sym, ap, ◌∙◌, subst, arith, add-one, inl, inr}
use Rattle.std.specs.List.{sum_by as std_sum_by}
use Rattle.std.specs.List.Sorted.{IsPermutation, IsNonDecreasingBy}
use Rattle.std.proofs.lemmas.List.{map-append, length-map}
use Rattle.std.proofs.lemmas.List.Sums.{sum_by-cons}
use Rattle.std.proofs.lemmas.List.Sorted.{All-permutation, sum_by-IsPermutation, length_permutation}
use Rattle.place_sets.specs.PlaceSets.{places_of}
use Rattle.place_sets.proofs.Sums.{sum_by-map, total_ones}
use Rattle.place_sets.proofs.PlaceSets.{often_in}
use Rattle.place_sets.proofs.PlaceSums.{places_step, total_step}
use Rattle.grouping_laws.specs.Sets.{indicator, sum_by}
use Rattle.grouping_laws.specs.Problem.{Problem}
use Rattle.grouping_laws.proofs.Elements.{Has, all_from_has}
use Rattle.grouping_laws.proofs.Places.{has_member}
use Rattle.connected_laws.proofs.PlaceLists.{placed_below}
use Rattle.state_groups.specs.People.{AreByPeople}

-- a place with its people
abbrev pub row : Problem → ℕ → ℕ × ℕ
row p x = (p.people x, x)

next_row : (p : Problem) (t : ℕ → Bool) (i : ℕ) (b : Bool) → t i ≡ b → map (row p) (places_of (i + 1) t) ≡ map (row p) (places_of i t) ++ cond b (row p i ∷ []) []
next_row p t i b e = ap (map (row p)) (places_step t i ∙ ap (λ z. places_of i t ++ cond z (i ∷ []) []) e) ∙ (map-append (row p) (places_of i t) (cond b (i ∷ []) []) ∙ ap (λ z. map (row p) (places_of i t) ++ z) (one b))
  where
    one : (b : Bool) → map (row p) (cond b (i ∷ []) []) ≡ cond b (row p i ∷ []) []
    one true = refl
    one false = refl

-- a place of the set is put behind the others
pub row_pushed : (p : Problem) (t : ℕ → Bool) (i : ℕ) (rows new : List (ℕ × ℕ)) (people : ℕ) → rows ≡ map (row p) (places_of i t) → t i ≡ true → people ≡ p.people i → new ≡ rows ++ (people, i) ∷ [] → new ≡ map (row p) (places_of (i + 1) t)
row_pushed p t i rows new people h e f k = k ∙ (ap (λ (z : List (ℕ × ℕ)). z ++ (people, i) ∷ []) h ∙ (ap (λ z. map (row p) (places_of i t) ++ (z, i) ∷ []) f ∙ sym (next_row p t i true e)))

-- another place isn't
pub row_skipped : (p : Problem) (t : ℕ → Bool) (i : ℕ) (rows new : List (ℕ × ℕ)) → rows ≡ map (row p) (places_of i t) → t i ≡ false → new ≡ rows → new ≡ map (row p) (places_of (i + 1) t)
row_skipped p t i rows new h e k = k ∙ (h ∙ (none (map (row p) (places_of i t)) ∙ sym (next_row p t i false e)))
  where
    none : (xs : List (ℕ × ℕ)) → xs ≡ xs ++ []
    none [] = refl
    none (x ∷ xs) = ap (λ z. x ∷ z) (none xs)

few_places : (t : ℕ → Bool) (n : ℕ) → length (places_of n t) ≤ n
few_places t zero = omega arith
few_places t (suc n) = omega (arith, few_places t n, total_step (λ x. 1) t n, total_ones (places_of n t), total_ones (places_of (n + 1) t), ap (λ z. length (places_of z t)) (add-one n), one (t n))
  where
    one : (b : Bool) → cond b 1 0 ≤ 1
    one true = omega arith
    one false = omega arith

total_sum : {X : Type 0} (f : X → ℕ) (xs : List X) → sum_by f xs ≡ std_sum_by f xs
total_sum f [] = refl
total_sum f (x ∷ xs) = omega (arith, total_sum f xs, sum_by-cons f x xs)

row_of : (p : Problem) (n : ℕ) (xs : List ℕ) → ((x : ℕ) → Has xs x → x < n) → (r : ℕ × ℕ) → Has (map (row p) xs) r → (r.0 ≡ p.people r.1) × (r.1 < n)
row_of p n [] h r i = absurd i
row_of p n (x ∷ xs) h r (inl e) = subst (λ (z : ℕ × ℕ). (z.0 ≡ p.people z.1) × (z.1 < n)) e (refl, h x (inl refl))
row_of p n (x ∷ xs) h r (inr i) = row_of p n xs (λ y j. h y (inr j)) r i

-- sorted, they are the places by people
pub sorted_rows : (p : Problem) (n from : ℕ) (t : ℕ → Bool) (rows sorted : List (ℕ × ℕ)) → rows ≡ map (row p) (places_of from t) → from ≡ n → ((x : ℕ) → t x ≡ true → x < n) → n ≤ 65536 → IsPermutation rows sorted → IsNonDecreasingBy (λ (r : ℕ × ℕ). r.0) sorted → AreByPeople p n t sorted
sorted_rows p n from t rows sorted h end below few moved rises = record {
  each = All-permutation (λ (r : ℕ × ℕ). (r.0 ≡ p.people r.1) × (r.1 < n)) rows sorted moved
      (all_from_has (λ (r : ℕ × ℕ). (r.0 ≡ p.people r.1) × (r.1 < n)) rows (λ r i. row_of p n (places_of n t) (λ x j. placed_below n x t (has_member (places_of n t) x j)) r (subst (λ z. Has z r) are i)));
  once = once;
  rising = rises;
  few = omega (arith, few, few_places t n, length_permutation rows sorted moved, ap length are, length-map (places_of n t) (row p));
}
  where
    are : rows ≡ map (row p) (places_of n t)
    are = h ∙ ap (λ z. map (row p) (places_of z t)) end

    once : (c : ℕ) → t c ≡ true → sum_by (λ (r : ℕ × ℕ). indicator (r.1 == c)) sorted ≡ 1
    once c e = omega (
      arith,
      total_sum (λ (r : ℕ × ℕ). indicator (r.1 == c)) sorted,
      sum_by-IsPermutation (λ (r : ℕ × ℕ). indicator (r.1 == c)) rows sorted moved,
      total_sum (λ (r : ℕ × ℕ). indicator (r.1 == c)) rows,
      ap (sum_by (λ (r : ℕ × ℕ). indicator (r.1 == c))) are,
      sum_by-map (λ (r : ℕ × ℕ). indicator (r.1 == c)) (row p) (places_of n t),
      often_in n c t (below c e) e,
    )
