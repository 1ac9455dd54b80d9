-- Lists of places sorted by size and then by places.
use Rattle.std.proofs.Common.{◌≡◌, ℕ, ◌<◌, false, List, [], ◌∷◌, length, get_or, refl, sym, arith, ◌⊎◌, inl, inr, AllPairs, Ordering, Less, Equal, Greater}
use Rattle.std.specs.Cmp.Lexicographic.{slice_cmp}
use Rattle.std.specs.Ordering.{nat_cmp, ordering_then, ordering_reverse, MatchOrdering, is_lt}
use Rattle.std.specs.List.Sorted.{IsSortedBy}
use Rattle.std.proofs.lemmas.Cmp.{ranked, nat_list_cmp_total}
use Rattle.std.proofs.lemmas.List.Sorted.{sorted_far, ranks_by}
use Rattle.std.proofs.lemmas.Bool.{false≢true}
use Rattle.grouping_laws.specs.GroupsFrom.{IsLesser}
use Rattle.connected_laws.specs.Growing.{sort_key}
use Rattle.connected_laws.proofs.Distinct.{Distinct, distinct_pairs}

same_lists : (xs ys : List ℕ) → slice_cmp nat_cmp xs ys ≡ Equal → xs ≡ ys
same_lists [] [] e = refl
same_lists [] (y ∷ ys) e = absurd (cc)
same_lists (x ∷ xs) [] e = absurd (cc)
same_lists (x ∷ xs) (y ∷ ys) e = go (same_lists xs ys) (nat_cmp x y) (ranked x y (nat_cmp x y) refl) e
  where
    both : x ≡ y → xs ≡ ys → x ∷ xs ≡ y ∷ ys
    both i j = cc

    go : (slice_cmp nat_cmp xs ys ≡ Equal → xs ≡ ys) → (o : Ordering) → MatchOrdering o (x < y) (x ≡ y) (y < x) → ordering_then o (slice_cmp nat_cmp xs ys) ≡ Equal → x ∷ xs ≡ y ∷ ys
    go k Less m e = absurd (cc)
    go k Equal m e = both m (k e)
    go k Greater m e = absurd (cc)

lesser : (xs ys : List ℕ) → length xs ≡ length ys → slice_cmp nat_cmp xs ys ≡ Less → IsLesser xs ys
lesser [] [] l e = absurd (cc)
lesser [] (y ∷ ys) l e = absurd (omega (arith, l))
lesser (x ∷ xs) [] l e = absurd (omega (arith, l))
lesser (x ∷ xs) (y ∷ ys) l e = go (lesser xs ys (omega (arith, l))) (nat_cmp x y) (ranked x y (nat_cmp x y) refl) e
  where
    go : (slice_cmp nat_cmp xs ys ≡ Less → IsLesser xs ys) → (o : Ordering) → MatchOrdering o (x < y) (x ≡ y) (y < x) → ordering_then o (slice_cmp nat_cmp xs ys) ≡ Less → (x < y) ⊎ ((x ≡ y) × IsLesser xs ys)
    go k Less m e = inl m
    go k Equal m e = inr (m, k e)
    go k Greater m e = absurd (cc)

-- a lesser key: the list stands before the other
key_before : (g h : List ℕ) → slice_cmp nat_cmp (sort_key g) (sort_key h) ≡ Less → (length g < length h) ⊎ ((length g ≡ length h) × IsLesser g h)
key_before g h e = go (nat_cmp (length g) (length h)) (ranked (length g) (length h) (nat_cmp (length g) (length h)) refl) e
  where
    go : (o : Ordering) → MatchOrdering o (length g < length h) (length g ≡ length h) (length h < length g) → ordering_then o (slice_cmp nat_cmp g h) ≡ Less → (length g < length h) ⊎ ((length g ≡ length h) × IsLesser g h)
    go Less m e = inl m
    go Equal m e = inr (m, lesser g h m e)
    go Greater m e = absurd (cc)

-- of two different lists that are not in the other order
key_less : (g h : List ℕ) → is_lt (slice_cmp nat_cmp (sort_key h) (sort_key g)) ≡ false → (g ≡ h → ⊥) → slice_cmp nat_cmp (sort_key g) (sort_key h) ≡ Less
key_less g h n d = go (slice_cmp nat_cmp (sort_key g) (sort_key h)) refl (slice_cmp nat_cmp (sort_key h) (sort_key g)) refl (nat_list_cmp_total.antisymm (sort_key g) (sort_key h)) n
  where
    tail : sort_key g ≡ sort_key h → g ≡ h
    tail e = cc

    go : (a : Ordering) → slice_cmp nat_cmp (sort_key g) (sort_key h) ≡ a → (b : Ordering) → slice_cmp nat_cmp (sort_key h) (sort_key g) ≡ b → a ≡ ordering_reverse b → is_lt b ≡ false → a ≡ Less
    go Less i b j r f = refl
    go Equal i b j r f = absurd (d (tail (same_lists (sort_key g) (sort_key h) i)))
    go Greater i Less j r f = absurd (false≢true (sym f))
    go Greater i Equal j r f = absurd (cc)
    go Greater i Greater j r f = absurd (cc)

-- lists that are sorted by their keys, each once, stand in the order of groups
pub sorted_before : (xs : List (List ℕ)) → IsSortedBy (λ g h. is_lt (slice_cmp nat_cmp (sort_key g) (sort_key h))) xs → Distinct xs → AllPairs (λ g h. (length g < length h) ⊎ ((length g ≡ length h) × IsLesser g h)) xs
sorted_before xs s h = λ i j d l m.
    key_before (get_or xs i d) (get_or xs j d)
    (key_less (get_or xs i d) (get_or xs j d) (sorted_far (λ g h. is_lt (slice_cmp nat_cmp (sort_key g) (sort_key h))) (ranks_by nat_list_cmp_total sort_key) xs s i j d (omega arith) m) (distinct_pairs xs h i j d l m))
