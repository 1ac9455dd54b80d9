-- The subsets of an order, by size and then by lists of places.
use Rattle.std.proofs.Common.{◌≡◌, ℕ, zero, suc, ◌<◌, ◌≤◌, Bool, true, false, cond, List, [], ◌∷◌, ◌++◌, length, map, filter, get_or, refl, sym, ap, ◌∙◌, subst, arith, ◌⊎◌, inl, inr, ⊎_elim, AllPairs}
use Rattle.std.proofs.lemmas.List.{get_or_default}
use Rattle.grouping_laws.specs.Sets.{count}
use Rattle.grouping_laws.specs.GroupsFrom.{IsLesser, IsBefore, place}
use Rattle.grouping_laws.proofs.Elements.{Has, has_append, has_left, has_right}
use Rattle.grouping_laws.proofs.Places.{place_at}
use Rattle.grouping_laws.proofs.PlaceCodes.{mapped_has, has_mapped}
use Rattle.certificate_laws.proofs.Kept.{head_before, tail_pairs, cons_pairs, pairs_append}

-- the subsets with a given number of codes, by places
abbrev pub of_size : ℕ → List ℕ → List (List ℕ)
of_size zero xs = [] ∷ []
of_size (suc k) [] = []
of_size (suc k) (x ∷ xs) = map (λ g. x ∷ g) (of_size k xs) ++ of_size (suc k) xs

-- the subsets with at most a given number of codes
abbrev pub up_to : ℕ → List ℕ → List (List ℕ)
up_to zero xs = of_size zero xs
up_to (suc k) xs = up_to k xs ++ of_size (suc k) xs

-- a subset has its size
size_is : (k : ℕ) (xs g : List ℕ) → Has (of_size k xs) g → length g ≡ k
size_is zero xs g (inl e) = sym (ap length e)
size_is zero xs g (inr h) = absurd h
size_is (suc k) [] g h = absurd h
size_is (suc k) (x ∷ xs) g h = ⊎_elim (λ m. let r = has_mapped (λ d. x ∷ d) (of_size k xs) g m in sym (ap length r.2) ∙ ap suc
    (size_is k xs r.0 r.1)) (size_is (suc k) xs g) (has_append (map (λ d. x ∷ d) (of_size k xs)) (of_size (suc k) xs) g h)

size_up_to : (k : ℕ) (xs g : List ℕ) → Has (up_to k xs) g → length g ≤ k
size_up_to zero xs g h = omega (arith, size_is zero xs g h)
size_up_to (suc k) xs g h = ⊎_elim (λ m. omega (arith, size_up_to k xs g m)) (λ m. omega (arith, size_is (suc k) xs g m))
    (has_append (up_to k xs) (of_size (suc k) xs) g h)

-- it begins with a code of the list
begins_in : (k : ℕ) (xs g : List ℕ) → Has (of_size (suc k) xs) g → (y : ℕ) × (d : List ℕ) × (g ≡ y ∷ d) × Has xs y
begins_in k [] g h = absurd h
begins_in k (x ∷ xs) g h = ⊎_elim (λ m. let r = has_mapped (λ d. x ∷ d) (of_size k xs) g m in (x, r.0, sym r.2, inl refl))
    (λ m. let r = begins_in k xs g m in (r.0, r.1, r.2, inr r.3)) (has_append (map (λ d. x ∷ d) (of_size k xs)) (of_size (suc k) xs) g h)

-- what holds of the images of each pair
mapped_pairs : {X Y : Type 0} (f : X → Y) (R : X → X → Type 0) (Q : Y → Y → Type 0) → ((x y : X) → R x y → Q (f x) (f y)) → (xs : List X)
    → AllPairs R xs → AllPairs Q (map f xs)
mapped_pairs f R Q keeps [] a = λ i j d l m. absurd (omega arith)
mapped_pairs f R Q keeps (x ∷ xs) a = cons_pairs Q (f x) (map f xs)
    (λ y h. let r = has_mapped f xs y h in subst (Q (f x)) r.2 (keeps x r.0 (head_before R x xs a r.0 r.1)))
    (mapped_pairs f R Q keeps xs (tail_pairs R x xs a))

module _ (f : ℕ → ℕ) where
  -- places ascend
  abbrev Ascend : List ℕ → Type 0
  Ascend xs = AllPairs (λ x y. f x < f y) xs

  abbrev Lesser : List ℕ → List ℕ → Type 0
  Lesser g h = IsLesser (map f g) (map f h)

  size_sorted : (k : ℕ) (xs : List ℕ) → Ascend xs → AllPairs Lesser (of_size k xs)
  size_sorted zero xs a = cons_pairs Lesser [] [] (λ y h. absurd h) (λ i j d l m. absurd (omega arith))
  size_sorted (suc k) [] a = λ i j d l m. absurd (omega arith)
  size_sorted (suc k) (x ∷ xs) a =
      pairs_append Lesser (map (λ d. x ∷ d) (of_size k xs)) (of_size (suc k) xs)
      (mapped_pairs (λ d. x ∷ d) Lesser Lesser (λ g h l. inr (refl, l)) (of_size k xs) (size_sorted k xs (tail_pairs (λ y z. f y < f z) x xs a)))
      (size_sorted (suc k) xs (tail_pairs (λ y z. f y < f z) x xs a))
      (λ g m h n.
      let r = has_mapped (λ d. x ∷ d) (of_size k xs) g m in
      let q = begins_in k xs h n in
      subst (λ z. Lesser z h) r.2 (subst (Lesser (x ∷ r.0)) (sym q.2) (inl (head_before (λ y z. f y < f z) x xs a q.0 q.3))))

ascends : (order : List ℕ) → ((c : ℕ) → count c order ≤ 1) → Ascend (place order) order
ascends order once = λ i j d l m. omega (arith, l, at i d (omega (arith, l, m)), at j d m)
  where
    at : (i d : ℕ) → i < length order → place order (get_or order i d) ≡ i
    at i d l = ap (place order) (get_or_default order i d 0 l) ∙ place_at order once i l

-- sorted by size and then by places
pub up_to_sorted : (order : List ℕ) → ((c : ℕ) → count c order ≤ 1) → (k : ℕ) → AllPairs (IsBefore order) (up_to k order)
up_to_sorted order once zero = cons_pairs (IsBefore order) [] [] (λ y h. absurd h) (λ i j d l m. absurd (omega arith))
up_to_sorted order once (suc k) =
    pairs_append (IsBefore order) (up_to k order) (of_size (suc k) order) (up_to_sorted order once k)
    (alike (of_size (suc k) order) (λ g h. size_is (suc k) order g h) (size_sorted (place order) (suc k) order (ascends order once)))
    (λ g m h n. inl (omega (arith, size_up_to k order g m, size_is (suc k) order h n)))
  where
    alike : (sets : List (List ℕ)) → ((g : List ℕ) → Has sets g → length g ≡ suc k) → AllPairs (Lesser (place order)) sets
        → AllPairs (IsBefore order) sets
    alike [] same a = λ i j d l m. absurd (omega arith)
    alike (g ∷ sets) same a =
        cons_pairs (IsBefore order) g sets (λ h m. inr (same g (inl refl) ∙ sym (same h (inr m)), head_before (Lesser (place order)) g sets a h m))
        (alike sets (λ h m. same h (inr m)) (tail_pairs (Lesser (place order)) g sets a))

-- each subset is among those of its size
of_more : (k x : ℕ) (xs g : List ℕ) → Has (of_size k xs) g → Has (of_size k (x ∷ xs)) g
of_more zero x xs g h = h
of_more (suc k) x xs g h = has_right (map (λ d. x ∷ d) (of_size k xs)) (of_size (suc k) xs) g h

has_size : (q : ℕ → Bool) (xs : List ℕ) → Has (of_size (length (filter q xs)) xs) (filter q xs)
has_size q [] = inl refl
has_size q (x ∷ xs) = go (q x) (has_size q xs)
  where
    go : (b : Bool) → Has (of_size (length (filter q xs)) xs) (filter q xs)
        → Has (of_size (length (cond b (x ∷ filter q xs) (filter q xs))) (x ∷ xs)) (cond b (x ∷ filter q xs) (filter q xs))
    go true h = has_left (map (λ d. x ∷ d) (of_size (length (filter q xs)) xs)) (of_size (suc (length (filter q xs))) xs) (x ∷ filter q xs)
        (mapped_has (λ d. x ∷ d) (of_size (length (filter q xs)) xs) (filter q xs) h)
    go false h = of_more (length (filter q xs)) x xs (filter q xs) h

up_to_has : (n k : ℕ) (xs g : List ℕ) → k ≤ n → Has (of_size k xs) g → Has (up_to n xs) g
up_to_has zero zero xs g l h = h
up_to_has zero (suc k) xs g l h = absurd (omega arith)
up_to_has (suc n) k xs g l h = ⊎_elim (λ m. has_left (up_to n xs) (of_size (suc n) xs) g (up_to_has n k xs g m h))
    (λ e. has_right (up_to n xs) (of_size (suc n) xs) g (subst (λ z. Has (of_size z xs) g) e h)) (last k n l)
  where
    last : (k n : ℕ) → k ≤ suc n → (k ≤ n) ⊎ (k ≡ suc n)
    last k n h = grind arith

pub has_up_to : (n : ℕ) (q : ℕ → Bool) (xs : List ℕ) → length (filter q xs) ≤ n → Has (up_to n xs) (filter q xs)
has_up_to n q xs l = up_to_has n (length (filter q xs)) xs (filter q xs) l (has_size q xs)
