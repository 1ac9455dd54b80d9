-- Lists of sets: their copies, and those that are sorted by size and then by places.
use Rattle.std.proofs.Common.{◌≡◌, ℕ, ◌+◌, ◌<◌, Bool, true, List, [], ◌∷◌, map, length, get_or, refl, sym, ap, ◌∙◌, arith}
use Rattle.std.specs.Cmp.Lexicographic.{slice_cmp}
use Rattle.std.specs.Ordering.{nat_cmp, is_lt}
use Rattle.std.specs.List.Sorted.{IsSortedBy}
use Rattle.std.proofs.lemmas.List.{length-map, get_or-map}
use Rattle.place_sets.specs.PlaceSets.{places_of, sized, sort_key, AreBelow, lists_of}
use Rattle.place_sets.proofs.SizeOrder.{places_bound}

pub map_twice : {X Y Z : Type 0} (f : Y → Z) (g : X → Y) (xs : List X) → map f (map g xs) ≡ map (λ x. f (g x)) xs
map_twice f g [] = refl
map_twice f g (x ∷ xs) = ap (λ z. f (g x) ∷ z) (map_twice f g xs)

-- sets that are sorted by their sizes and places below one bound are so below any that they keep
pub lists_sorted : (C : Type 0) (n m : ℕ) (test : C → ℕ → Bool) (list : List C) → AreBelow n test list → ((s : C) (x : ℕ) → test s x ≡ true → x < m) → IsSortedBy (λ a b. is_lt (slice_cmp nat_cmp (sized m (test a)) (sized m (test b)))) list
    → IsSortedBy (λ g h. is_lt (slice_cmp nat_cmp (sort_key g) (sort_key h))) (lists_of n test list)
lists_sorted C n m test [] below bounded up = λ k d l o. absurd (omega (arith, o))
lists_sorted C n m test (x ∷ xs) below bounded up = λ k d l o.
    let list : List C = x ∷ xs in
    let places = λ (s : C). places_of n (test s) in
    let inside : k + 1 < length list = omega (arith, o, length-map list places) in
    let b = get_or list (k + 1) x in
    let a = get_or list k x in
    let one : get_or (lists_of n test list) (k + 1) d ≡ places b = get_or-map places list (k + 1) x d inside in
    let two : get_or (lists_of n test list) k d ≡ places a = get_or-map places list k x d (omega (arith, inside)) in
    let first : sort_key (places b) ≡ sized m (test b) = ap sort_key (places_bound n m (test b) (below (k + 1) x inside) (bounded b)) in
    let second : sort_key (places a) ≡ sized m (test a) = ap sort_key (places_bound n m (test a) (below k x (omega (arith, inside))) (bounded a)) in
    ap (λ z. is_lt (slice_cmp nat_cmp (sort_key z) (sort_key (get_or (lists_of n test list) k d)))) one
    ∙ (ap (λ z. is_lt (slice_cmp nat_cmp (sort_key (places b)) (sort_key z))) two
    ∙ (ap (λ z. is_lt (slice_cmp nat_cmp z (sort_key (places a)))) first
    ∙ (ap (λ z. is_lt (slice_cmp nat_cmp (sized m (test b)) z)) second ∙ up k x (omega arith) inside)))

-- sets of the same tests have the same lists of places
pub lists_same : (C : Type 0) (n : ℕ) (test : C → ℕ → Bool) (xs ys : List C) → map test xs ≡ map test ys → lists_of n test xs ≡ lists_of n test ys
lists_same C n test xs ys same = sym (map_twice (places_of n) test xs) ∙ (ap (map (places_of n)) same ∙ map_twice (places_of n) test ys)
