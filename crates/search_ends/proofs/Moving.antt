-- What stays where sets are moved about.
use Rattle.std.proofs.Common.{◌≡◌, ℕ, ◌+◌, ◌<◌, List, [], ◌∷◌, map, length, get_or, refl, sym, ap, ◌∙◌, arith}
use Rattle.std.specs.Prelude.{sum_by as std_sum_by}
use Rattle.std.specs.List.{swap}
use Rattle.std.specs.List.Sorted.{IsPermutation}
use Rattle.std.proofs.Math.ListN.{set}
use Rattle.std.proofs.lemmas.List.{map-set, length-map, get_or-map}
use Rattle.std.proofs.lemmas.List.Sums.{sum_by-cons}
use Rattle.std.proofs.lemmas.List.Sorted.{IsPermutation-refl, IsPermutation-trans, IsPermutation-swap, IsPermutation-keeps, IsPermutation-sym, sum_by-IsPermutation, Contains-permutation}
use Rattle.grouping_laws.specs.Sets.{sum_by}
use Rattle.grouping_laws.proofs.Elements.{Has, has_from_contains, contains_from_has}

-- an element stays an element
pub has_moved : {X : Type 0} (xs ys : List X) → IsPermutation xs ys → (x : X) → Has xs x → Has ys x
has_moved xs ys moved x h = has_from_contains ys x (Contains-permutation xs ys x moved (contains_from_has xs x h))

pub has_back : {X : Type 0} (xs ys : List X) → IsPermutation xs ys → (x : X) → Has ys x → Has xs x
has_back xs ys moved x h = has_moved ys xs (IsPermutation-sym xs ys moved) x h

total_sum : {X : Type 0} (f : X → ℕ) (xs : List X) → sum_by f xs ≡ std_sum_by f xs
total_sum f [] = refl
total_sum f (x ∷ xs) = ap (λ n. f x + n) (total_sum f xs) ∙ sym (sum_by-cons f x xs)

-- a sum over them stays the same
pub total_moved : {X : Type 0} (f : X → ℕ) (xs ys : List X) → IsPermutation xs ys → sum_by f ys ≡ sum_by f xs
total_moved f xs ys moved = total_sum f ys ∙ (sum_by-IsPermutation f xs ys moved ∙ sym (total_sum f xs))

map_swap : {Z X : Type 0} (f : Z → X) (zs : List Z) (i j : ℕ) → i < length zs → j < length zs → map f (swap zs i j) ≡ swap (map f zs) i j
map_swap f [] i j p q = refl
map_swap f (d ∷ zs) i j p q =
    map-set f (set (d ∷ zs) i (get_or (d ∷ zs) j d)) j (get_or (d ∷ zs) i d)
    ∙ (ap (λ z. set z j (f (get_or (d ∷ zs) i d))) (map-set f (d ∷ zs) i (get_or (d ∷ zs) j d))
    ∙ (ap (λ z. set (set (map f (d ∷ zs)) i z) j (f (get_or (d ∷ zs) i d))) (sym (get_or-map f (d ∷ zs) j d (f d) q))
    ∙ ap (λ z. set (set (map f (d ∷ zs)) i (get_or (map f (d ∷ zs)) j (f d))) j z) (sym (get_or-map f (d ∷ zs) i d (f d) p))))

-- what is moved about can be moved together with more that is known of it
pub moved_along : {Z X : Type 0} (f : Z → X) (zs : List Z) (ys : List X) → IsPermutation (map f zs) ys → (ws : List Z) × IsPermutation zs ws × (map f ws ≡ ys)
moved_along {Z = Z} {X = X} f zs ys moved =
    IsPermutation-keeps (map f zs) (λ (l : List X). (ws : List Z) × IsPermutation zs ws × (map f ws ≡ l)) (zs, IsPermutation-refl zs, refl) step ys moved
  where
    step : (l : List X) (i j : ℕ) → i < length l → j < length l → ((ws : List Z) × IsPermutation zs ws × (map f ws ≡ l)) → (ws : List Z) × IsPermutation zs ws × (map f ws ≡ swap l i j)
    step l i j p q h =
        let a : i < length h.0 = omega (arith, p, ap length h.2, length-map h.0 f) in
        let b : j < length h.0 = omega (arith, q, ap length h.2, length-map h.0 f) in
        (swap h.0 i j, IsPermutation-trans zs h.0 (swap h.0 i j) h.1 (IsPermutation-swap h.0 (swap h.0 i j) i j a b refl), map_swap f h.0 i j a b ∙ ap (λ z. swap z i j) h.2)
