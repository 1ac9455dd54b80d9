-- Groupings that are sorted by their lists of sets.
use Rattle.std.proofs.Common.{◌≡◌, ℕ, suc, zero, ◌<◌, false, List, [], ◌∷◌, map, length, get_or, refl, sym, ap, ◌∙◌, subst, arith, inl, inr, ⊎_elim, ◌⊎◌, All, AllPairs, Ordering, Less, Equal, Greater}
use Rattle.std.specs.Cmp.Lexicographic.{slice_cmp}
use Rattle.std.specs.Ordering.{nat_cmp, ordering_then, ordering_reverse, MatchOrdering, is_lt}
use Rattle.std.specs.List.Sorted.{IsSortedBy, IsPermutation}
use Rattle.std.proofs.lemmas.Bool.{false≢true}
use Rattle.std.proofs.lemmas.Cmp.{ranked, nat_list_cmp_total, lists_total, on_total}
use Rattle.std.proofs.lemmas.List.{length-map, get_or-map}
use Rattle.std.proofs.lemmas.List.Sorted.{sorted_far, ranks_by, length_permutation}
use Rattle.county_codes.specs.declared.group.Grouping.{Grouping as GroupingHeld}
use Rattle.grouping_laws.specs.Problem.{Problem}
use Rattle.grouping_laws.specs.Grouping.{Grouping, IsBest, sets_of}
use Rattle.grouping_laws.proofs.Elements.{Has, has_all, all_from_has, has_from_contains, contains_from_has}
use Rattle.grouping_laws.proofs.PlaceCodes.{mapped_has, has_mapped}
use Rattle.connected_laws.specs.Growing.{sort_key}
use Rattle.connected_laws.proofs.Distinct.{Distinct, distinct_pairs, distinct_moved}
use Rattle.connected_laws.proofs.Sorting.{sorted_before}
use Rattle.connected_laws.proofs.Keys.{map_twice}
use Rattle.certificate_laws.proofs.Kept.{head_before, tail_pairs, cons_pairs}
use Rattle.search_ends.proofs.Moving.{has_moved, has_back}
use Rattle.list_laws.specs.AllBest.{SameSets, AreAllBest}
use Rattle.list_laws.proofs.Same.{same_self}
use Rattle.list_groupings.specs.Keys.{set_order}
use Rattle.list_groupings.specs.ListOrder.{IsLesserSet, IsLesserList, IsInOrder, AreInOrder}
use Rattle.list_groupings.specs.Walking.{sets_held}
use Rattle.list_groupings.proofs.Canonical.{same_in_order}

-- lists whose elements compare equal only where they are equal
equal_lists : {X : Type 0} (R : X → X → Ordering) → ((x y : X) → R x y ≡ Equal → x ≡ y) → (xs ys : List X) → slice_cmp R xs ys ≡ Equal → xs ≡ ys
equal_lists R one [] [] e = refl
equal_lists R one [] (y ∷ ys) e = absurd (cc)
equal_lists R one (x ∷ xs) [] e = absurd (cc)
equal_lists {X = X} R one (x ∷ xs) (y ∷ ys) e = go (R x y) refl e (equal_lists R one xs ys)
  where
    go : (o : Ordering) → R x y ≡ o → ordering_then o (slice_cmp R xs ys) ≡ Equal → (slice_cmp R xs ys ≡ Equal → xs ≡ ys) → x ∷ xs ≡ y ∷ ys
    go Less k e next = absurd (cc)
    go Equal k e next = ap (λ z. z ∷ xs) (one x y k) ∙ ap (λ (l : List X). y ∷ l) (next e)
    go Greater k e next = absurd (cc)

equal_numbers : (x y : ℕ) → nat_cmp x y ≡ Equal → x ≡ y
equal_numbers x y e = go (nat_cmp x y) (ranked x y (nat_cmp x y) refl) e
  where
    go : (o : Ordering) → MatchOrdering o (x < y) (x ≡ y) (y < x) → o ≡ Equal → x ≡ y
    go Less m e = absurd (cc)
    go Equal m e = m
    go Greater m e = absurd (cc)

tail_same : (m n : ℕ) (g h : List ℕ) → m ∷ g ≡ n ∷ h → g ≡ h
tail_same m n g h e = cc

equal_sets : (g h : List ℕ) → set_order g h ≡ Equal → g ≡ h
equal_sets g h e = tail_same (length g) (length h) g h (equal_lists nat_cmp equal_numbers (sort_key g) (sort_key h) e)

turned : (g h : List ℕ) → set_order g h ≡ Less → is_lt (set_order h g) ≡ false
turned g h e = ap is_lt (nat_list_cmp_total.antisymm (sort_key h) (sort_key g) ∙ ap ordering_reverse e)

-- two sets, of which the first is less
lesser_set : (g h : List ℕ) → set_order g h ≡ Less → IsLesserSet g h
lesser_set g h e = sorted_before (g ∷ h ∷ []) sorted ((λ i. ⊎_elim (λ d. apart (sym d)) (λ k. k) i), ((λ i. i), tt)) 0 1 g (omega arith) (omega arith)
  where
    itself : set_order g g ≡ Less → ⊥
    itself l = absurd (cc (nat_list_cmp_total.antisymm (sort_key g) (sort_key g), ap ordering_reverse l))

    apart : g ≡ h → ⊥
    apart d = itself (ap (set_order g) d ∙ e)

    sorted : IsSortedBy (λ x y. is_lt (set_order x y)) (g ∷ h ∷ [])
    sorted zero d l o = turned g h e
    sorted (suc k) d l o = absurd (omega arith)

lesser_list : (xs ys : List (List ℕ)) → slice_cmp set_order xs ys ≡ Less → IsLesserList xs ys
lesser_list [] [] e = absurd (cc)
lesser_list [] (y ∷ ys) e = tt
lesser_list (x ∷ xs) [] e = absurd (cc)
lesser_list (x ∷ xs) (y ∷ ys) e = go (set_order x y) refl e (lesser_list xs ys)
  where
    go : (o : Ordering) → set_order x y ≡ o → ordering_then o (slice_cmp set_order xs ys) ≡ Less → (slice_cmp set_order xs ys ≡ Less → IsLesserList xs ys) → IsLesserSet x y ⊎ ((x ≡ y) × IsLesserList xs ys)
    go Less k e next = inl (lesser_set x y k)
    go Equal k e next = inr (equal_sets x y k, next e)
    go Greater k e next = absurd (cc)

-- of two different lists that are not in the other order
list_less : (xs ys : List (List ℕ)) → is_lt (slice_cmp set_order ys xs) ≡ false → (xs ≡ ys → ⊥) → slice_cmp set_order xs ys ≡ Less
list_less xs ys n d = go (slice_cmp set_order xs ys) refl (slice_cmp set_order ys xs) refl ((lists_total (on_total sort_key nat_list_cmp_total)).antisymm xs ys) n
  where
    go : (a : Ordering) → slice_cmp set_order xs ys ≡ a → (b : Ordering) → slice_cmp set_order ys xs ≡ b → a ≡ ordering_reverse b → is_lt b ≡ false → a ≡ Less
    go Less i b j r f = refl
    go Equal i b j r f = absurd (d (equal_lists set_order equal_sets xs ys i))
    go Greater i Less j r f = absurd (false≢true (sym f))
    go Greater i Equal j r f = absurd (cc)
    go Greater i Greater j r f = absurd (cc)

abbrev key : GroupingHeld → List (List ℕ)
key g = sets_of (sets_held g)

sorted_lists : (list : List GroupingHeld) → IsSortedBy (λ g h. is_lt (slice_cmp set_order (sets_of g.groups.items) (sets_of h.groups.items))) list → Distinct (map key list) → AllPairs (λ g h. IsLesserList (sets_of g) (sets_of h)) (map sets_held list)
sorted_lists [] up diff = λ i j d l m. absurd (omega (arith, m))
sorted_lists (x ∷ xs) up diff = λ i j d l m.
    let list : List GroupingHeld = x ∷ xs in
    let inside : j < length list = omega (arith, m, length-map list sets_held) in
    let a = get_or list i x in
    let b = get_or list j x in
    let one : get_or (map sets_held list) i d ≡ sets_held a = get_or-map sets_held list i x d (omega (arith, l, inside)) in
    let two : get_or (map sets_held list) j d ≡ sets_held b = get_or-map sets_held list j x d inside in
    let far : is_lt (slice_cmp set_order (key b) (key a)) ≡ false =
    sorted_far (λ (g h : GroupingHeld). is_lt (slice_cmp set_order (key g) (key h))) (ranks_by (lists_total (on_total sort_key nat_list_cmp_total)) key) list up i j x (omega (arith, l)) inside in
    let differ : key a ≡ key b → ⊥ = λ (e : key a ≡ key b). distinct_pairs (map key list) diff i j (key x) l (omega (arith, inside, length-map list key))
    (get_or-map key list i x (key x) (omega (arith, l, inside)) ∙ (e ∙ sym (get_or-map key list j x (key x) inside))) in
    subst (λ z. IsLesserList (sets_of z) (sets_of (get_or (map sets_held list) j d))) (sym one) (subst (λ z. IsLesserList (key a) (sets_of z)) (sym two) (lesser_list (key a) (key b) (list_less (key a) (key b) far differ)))

distinct_sets : (gs : List Grouping) → AllPairs (λ g h. ¬ SameSets (sets_of g) (sets_of h)) gs → Distinct (map sets_of gs)
distinct_sets [] a = tt
distinct_sets (g ∷ gs) a = (
  λ i. let r = has_mapped sets_of gs (sets_of g) i in head_before (λ g h. ¬ SameSets (sets_of g) (sets_of h)) g gs a r.0 r.1 (subst (SameSets (sets_of g)) (sym r.2) (same_self (sets_of g))),
  distinct_sets gs (tail_pairs (λ g h. ¬ SameSets (sets_of g) (sets_of h)) g gs a),
)

apart_sets : (gs : List Grouping) → ((g : Grouping) → Has gs g → IsInOrder g) → Distinct (map sets_of gs) → AllPairs (λ g h. ¬ SameSets (sets_of g) (sets_of h)) gs
apart_sets [] o d = λ i j x l m. absurd (omega (arith, m))
apart_sets (g ∷ gs) o d = cons_pairs (λ g h. ¬ SameSets (sets_of g) (sets_of h)) g gs
    (λ h i same. d.0 (subst (Has (map sets_of gs)) (sym (same_in_order g h (o g (inl refl)) (o h (inr i)) same)) (mapped_has sets_of gs h i)))
    (apart_sets gs (λ h i. o h (inr i)) d.1)

module _ (p : Problem) (old new : List GroupingHeld) (moved : IsPermutation old new) (all : AreAllBest p (map sets_held old)) (ordered : All (λ g. IsInOrder (sets_held g)) old) where
  there : (g : Grouping) → Has (map sets_held old) g → Has (map sets_held new) g
  there g h = let r = has_mapped sets_held old g h in subst (Has (map sets_held new)) r.2 (mapped_has sets_held new r.0 (has_moved old new moved r.0 r.1))

  back : (g : Grouping) → Has (map sets_held new) g → Has (map sets_held old) g
  back g h = let r = has_mapped sets_held new g h in subst (Has (map sets_held old)) r.2 (mapped_has sets_held old r.0 (has_back old new moved r.0 r.1))

  each_in_order : (g : Grouping) → Has (map sets_held new) g → IsInOrder g
  each_in_order g h = let r = has_mapped sets_held old g (back g h) in subst IsInOrder r.2 (has_all (λ g. IsInOrder (sets_held g)) old ordered r.0 r.1)

  diff : Distinct (map sets_of (map sets_held new))
  diff = distinct_moved (map sets_of (map sets_held new)) (map sets_of (map sets_held old)) (distinct_sets (map sets_held old) all.apart)
      (omega (arith, length-map (map sets_held new) sets_of, length-map new sets_held, length-map (map sets_held old) sets_of, length-map old sets_held, length_permutation old new moved))
      (λ k h. let r = has_mapped sets_of (map sets_held old) k h in subst (Has (map sets_of (map sets_held new))) r.2 (mapped_has sets_of (map sets_held new) r.0 (there r.0 r.1)))
      (λ k h. let r = has_mapped sets_of (map sets_held new) k h in subst (Has (map sets_of (map sets_held old))) r.2 (mapped_has sets_of (map sets_held old) r.0 (back r.0 r.1)))

  pub still_all : AreAllBest p (map sets_held new)
  still_all = record {
    best = all_from_has (IsBest p) (map sets_held new) (λ g h. has_all (IsBest p) (map sets_held old) all.best g (back g h));
    apart = apart_sets (map sets_held new) each_in_order diff;
    complete = λ g b. let r = all.complete g b in (r.0, contains_from_has (map sets_held new) r.0 (there r.0 (has_from_contains (map sets_held old) r.0 r.1)), r.2);
  }

  pub now_in_order : IsSortedBy (λ g h. is_lt (slice_cmp set_order (sets_of g.groups.items) (sets_of h.groups.items))) new → AreInOrder (map sets_held new)
  now_in_order up = record {
    each = all_from_has IsInOrder (map sets_held new) each_in_order;
    groupings = sorted_lists new up (subst Distinct (map_twice sets_of sets_held new) diff);
  }
