-- What a search by growing sets finds: at its leaves, at its forks, and where it stops early.
use Rattle.std.proofs.Common.{◌≡◌, ℕ, ◌≤◌, ◌<◌, Bool, true, false, ◌||◌, ◌&&◌, not, ◌==◌, List, [], ◌∷◌, ◌++◌, length, refl, sym, ap, ◌∙◌, subst, arith, ◌⊎◌, inl, inr, ⊎_elim}
use Rattle.std.proofs.lemmas.Bool.{eqb-true, eq-eqb, ne_eqb, false≢true}
use Rattle.grouping_laws.specs.Sets.{indicator, count, contains}
use Rattle.grouping_laws.specs.Problem.{Problem, HasBorder}
use Rattle.grouping_laws.specs.Places.{places_below}
use Rattle.place_sets.specs.PlaceSets.{places_of}
use Rattle.place_sets.proofs.Sums.{often_none, often_some, total_within, total_ones}
use Rattle.grouping_laws.proofs.Alike.{connected_alike, length_alike}
use Rattle.grouping_laws.proofs.Sizes.{count-filter}
use Rattle.grouping_laws.proofs.Fill.{grown}
use Rattle.grouping_laws.proofs.Elements.{Has, has_from_contains, contains_from_has, has_left, has_right, has_append}
use Rattle.place_sets.proofs.PlaceSets.{often_in, often_out, places_same}
use Rattle.connected_laws.specs.Growing.{IsExtension, AreKept, IsGrowth, IsCandidate, IsWhole, IsMove}
use Rattle.connected_laws.proofs.PlaceLists.{often_placed, placed, placed_test, same_tests, some_member}
use Rattle.connected_laws.proofs.Distinct.{Distinct, distinct_append, distinct_pairs, distinct_from_pairs}

or_cases : (a b : Bool) → (a || b) ≡ true → (a ≡ true) ⊎ (b ≡ true)
or_cases true b e = inl refl
or_cases false b e = inr e

or_first : (a b : Bool) → a ≡ true → (a || b) ≡ true
or_first a b e = ap (λ z. z || b) e

or_second : (a b : Bool) → b ≡ true → (a || b) ≡ true
or_second true b e = refl
or_second false b e = e

-- the set itself is an extension
itself : (p : Problem) (n limit : ℕ) (set free : ℕ → Bool) → IsGrowth p n limit set free → IsExtension p n limit set free (places_of n set)
itself p n limit set free h = record {
  in_order = places_same n set (contains (places_of n set)) (λ c. same_tests (contains (places_of n set) c) (set c) (placed_test n c set) (λ e. placed n c set (h.below c e) e));
  connected = h.connected;
  small = h.small;
  has = λ c e. placed n c set (h.below c e) e;
  within = λ c e. or_first (set c) (free c) (placed_test n c set e);
}

-- an extension with no place outside the set is the set
equal_set : (p : Problem) (n limit : ℕ) (set free : ℕ → Bool) → (g : List ℕ) → IsExtension p n limit set free g → ((y : ℕ) → contains g y ≡ true → set y ≡ true) → places_of n set ≡ g
equal_set p n limit set free g x h = places_same n (contains g) set (λ c. same_tests (set c) (contains g c) (x.has c) (h c)) ∙ x.in_order

-- where the set is whole, no extension has a place outside it
no_more : (p : Problem) (n limit : ℕ) (set free : ℕ → Bool) → IsGrowth p n limit set free → IsWhole p n limit set free → (g : List ℕ) → IsExtension p n limit set free g → (y : ℕ) → contains g y ≡ true → set y ≡ true
no_more p n limit set free h whole g x y m = go (set y) refl
  where
    closed : set y ≡ false → ((x y : ℕ) → set x ≡ true → free y ≡ true → p.adjacent x y ≡ false) → ⊥
    closed e w =
        let s : (c : ℕ) × (contains (places_of n set) c ≡ true) = some_member (places_of n set) h.connected.some_county in
        let t : set s.0 ≡ true = placed_test n s.0 set s.1 in
        let r : HasBorder p g set = x.connected.joined set (s.0, y, x.has s.0 t, m, t, e) in
        ⊎_elim (λ k. false≢true (sym r.5 ∙ k)) (λ k. false≢true (sym (w r.0 r.1 r.4 k) ∙ r.6)) (or_cases (set r.1) (free r.1) (x.within r.1 r.3))

    full : set y ≡ false → length (places_of n set) ≡ limit → ⊥
    full e l = omega (arith, l, x.small, total_within (λ z. 1) (y ∷ places_of n set) g more, total_ones (places_of n set), total_ones g)
      where
        more : (c : ℕ) → count c (y ∷ places_of n set) ≤ count c g
        more c = by (y == c) refl (set c) refl
          where
            by : (a : Bool) → (y == c) ≡ a → (b : Bool) → set c ≡ b → count c (y ∷ places_of n set) ≤ count c g
            by true i true j = absurd (false≢true (sym e ∙ (ap set (eqb-true y c i) ∙ j)))
            by true i false j = omega (arith, ap indicator i, often_none c (places_of n set) (none j), often_some c g (subst (λ z. contains g z ≡ true) (eqb-true y c i) m))
              where
                none : set c ≡ false → contains (places_of n set) c ≡ false
                none j = stays (contains (places_of n set) c) refl
                  where
                    stays : (d : Bool) → contains (places_of n set) c ≡ d → d ≡ false
                    stays true k = absurd (false≢true (sym j ∙ placed_test n c set k))
                    stays false k = refl
            by false i true j = omega (arith, ap indicator i, often_placed n c set, often_some c g (x.has c j))
            by false i false j = omega (arith, ap indicator i, often_none c (places_of n set) (none j))
              where
                none : set c ≡ false → contains (places_of n set) c ≡ false
                none j = stays (contains (places_of n set) c) refl
                  where
                    stays : (d : Bool) → contains (places_of n set) c ≡ d → d ≡ false
                    stays true k = absurd (false≢true (sym j ∙ placed_test n c set k))
                    stays false k = refl

    go : (b : Bool) → set y ≡ b → b ≡ true
    go true e = refl
    go false e = absurd (⊎_elim (closed e) (full e) whole)

-- by elements: sound, complete and each once
pub kept_sound : (p : Problem) (n limit : ℕ) (keep : List ℕ → Bool) (set free : ℕ → Bool) (sets : List (List ℕ)) → AreKept p n limit keep set free sets → (g : List ℕ) → Has sets g → IsExtension p n limit set free g × (keep g ≡ true)
kept_sound p n limit keep set free sets k g h = (k.each g).0 (contains_from_has sets g h)

pub kept_complete : (p : Problem) (n limit : ℕ) (keep : List ℕ → Bool) (set free : ℕ → Bool) (sets : List (List ℕ)) → AreKept p n limit keep set free sets → (g : List ℕ) → IsExtension p n limit set free g → keep g ≡ true → Has sets g
kept_complete p n limit keep set free sets k g x e = has_from_contains sets g ((k.each g).1 (x, e))

are_kept : (p : Problem) (n limit : ℕ) (keep : List ℕ → Bool) (set free : ℕ → Bool) (sets : List (List ℕ)) → ((g : List ℕ) → Has sets g → IsExtension p n limit set free g × (keep g ≡ true))
    → ((g : List ℕ) → IsExtension p n limit set free g → keep g ≡ true → Has sets g) → Distinct sets → AreKept p n limit keep set free sets
are_kept p n limit keep set free sets sound complete once = record {
  each = λ g. (λ c. sound g (has_from_contains sets g c), λ x. contains_from_has sets g (complete g x.0 x.1));
  once = distinct_pairs sets once;
}

-- a whole set is the only extension of itself
pub leaf_only : (p : Problem) (n limit : ℕ) (set free : ℕ → Bool) → IsGrowth p n limit set free → IsWhole p n limit set free → IsExtension p n limit set free (places_of n set) × ((g : List ℕ) → IsExtension p n limit set free g → places_of n set ≡ g)
leaf_only p n limit set free h whole = (itself p n limit set free h, λ g x. equal_set p n limit set free g x (no_more p n limit set free h whole g x))

-- a whole set that passes the test
pub leaf_kept : (p : Problem) (n limit : ℕ) (keep : List ℕ → Bool) (set free : ℕ → Bool) → IsGrowth p n limit set free → IsWhole p n limit set free → keep (places_of n set) ≡ true → AreKept p n limit keep set free (places_of n set ∷ [])
leaf_kept p n limit keep set free h whole e =
    let only = leaf_only p n limit set free h whole in
    are_kept p n limit keep set free (places_of n set ∷ [])
    (λ g i. ⊎_elim (λ j. subst (λ z. IsExtension p n limit set free z × (keep z ≡ true)) j (only.0, e)) (λ (k : ⊥). absurd k) i)
    (λ g x k. inl (only.1 g x))
    (λ (k : ⊥). k, tt)

-- no extension passes the test
pub none_kept : (p : Problem) (n limit : ℕ) (keep : List ℕ → Bool) (set free : ℕ → Bool) → ((g : List ℕ) → IsExtension p n limit set free g → keep g ≡ false) → AreKept p n limit keep set free []
none_kept p n limit keep set free none = are_kept p n limit keep set free [] (λ g (i : ⊥). absurd i) (λ g x e. absurd (false≢true (sym (none g x) ∙ e))) tt

-- a whole set that doesn't
pub leaf_left : (p : Problem) (n limit : ℕ) (keep : List ℕ → Bool) (set free : ℕ → Bool) → IsGrowth p n limit set free → IsWhole p n limit set free → keep (places_of n set) ≡ false → AreKept p n limit keep set free []
leaf_left p n limit keep set free h whole e =
    let only = leaf_only p n limit set free h whole in
    none_kept p n limit keep set free (λ g x. ap keep (sym (only.1 g x)) ∙ e)

and_first : (a b : Bool) → (a && b) ≡ true → a ≡ true
and_first true b e = refl
and_first false b e = e

and_second : (a b : Bool) → (a && not b) ≡ true → b ≡ false
and_second true true e = sym e
and_second true false e = refl
and_second false b e = absurd (false≢true e)

and_both : (a b : Bool) → a ≡ true → b ≡ false → (a && not b) ≡ true
and_both true false e f = refl
and_both true true e f = absurd (false≢true (sym f))
and_both false b e f = absurd (false≢true e)

not_true : (b : Bool) → (b ≡ true → ⊥) → b ≡ false
not_true true h = absurd (h refl)
not_true false h = refl

less_free : (set free more less : ℕ → Bool) (c : ℕ) → IsMove set free more less c → (x : ℕ) → less x ≡ true → free x ≡ true
less_free set free more less c m x e = and_first (free x) (not (x == c)) (sym (m.without x) ∙ e)

more_cases : (set free more less : ℕ → Bool) (c : ℕ) → IsMove set free more less c → (x : ℕ) → more x ≡ true → (set x ≡ true) ⊎ (x ≡ c)
more_cases set free more less c m x e = ⊎_elim inl (λ i. inr (eqb-true x c i)) (or_cases (set x) (x == c) (sym (m.with x) ∙ e))

more_here : (set free more less : ℕ → Bool) (c : ℕ) → IsMove set free more less c → more c ≡ true
more_here set free more less c m = m.with c ∙ or_second (set c) (c == c) (eq-eqb c c refl)

less_here : (set free more less : ℕ → Bool) (c : ℕ) → IsMove set free more less c → less c ≡ false
less_here set free more less c m = not_true (less c) (λ e. false≢true (sym (and_second (free c) (c == c) (sym (m.without c) ∙ e)) ∙ eq-eqb c c refl))

more_set : (set free more less : ℕ → Bool) (c : ℕ) → IsMove set free more less c → (x : ℕ) → set x ≡ true → more x ≡ true
more_set set free more less c m x e = m.with x ∙ or_first (set x) (x == c) e

less_other : (set free more less : ℕ → Bool) (c : ℕ) → IsMove set free more less c → (x : ℕ) → free x ≡ true → (x ≡ c → ⊥) → less x ≡ true
less_other set free more less c m x e h = m.without x ∙ and_both (free x) (x == c) e (ne_eqb x c h)

-- a free place joins the set: the search stands somewhere again
pub grown_growth : (p : Problem) (n limit : ℕ) (set free more less : ℕ → Bool) (c : ℕ) → ((x y : ℕ) → p.adjacent x y ≡ true → p.adjacent y x ≡ true) → IsGrowth p n limit set free → IsCandidate p set free c → length (places_of n set) < limit
    → IsMove set free more less c → IsGrowth p n limit more less
grown_growth p n limit set free more less c symmetric h k small m = record {
  connected = connected_alike p (c ∷ places_of n set) (places_of n more) alike (grown p symmetric (places_of n set) k.from c h.connected (placed n k.from set (h.below k.from k.from_set) k.from_set) k.touch);
  small = omega (arith, length_alike (c ∷ places_of n set) (places_of n more) alike, small);
  below = λ x e. ⊎_elim (h.below x) (λ i. subst (λ z. z < n) (sym i) (h.free_below c k.is_free)) (more_cases set free more less c m x e);
  free_below = λ x e. h.free_below x (less_free set free more less c m x e);
  apart = λ x e. ⊎_elim (λ i. not_true (less x) (λ l. false≢true (sym (h.apart x i) ∙ less_free set free more less c m x l))) (λ i. ap less i ∙ less_here set free more less c m) (more_cases set free more less c m x e);
}
  where
    outside : set c ≡ false
    outside = not_true (set c) (λ e. false≢true (sym (h.apart c e) ∙ k.is_free))

    alike : (x : ℕ) → count x (c ∷ places_of n set) ≡ count x (places_of n more)
    alike x = go (c == x) refl (set x) refl
      where
        go : (a : Bool) → (c == x) ≡ a → (b : Bool) → set x ≡ b → count x (c ∷ places_of n set) ≡ count x (places_of n more)
        go true i b e =
            let same : c ≡ x = eqb-true c x i in
            omega (arith, ap indicator i, often_out n x set (ap set (sym same) ∙ outside), often_in n x more (subst (λ z. z < n) same (h.free_below c k.is_free)) (ap more (sym same) ∙ more_here set free more less c m))
        go false i true e = omega (arith, ap indicator i, count-filter x set (places_below n) e, count-filter x more (places_below n) (more_set set free more less c m x e))
        go false i false e =
            omega (arith, ap indicator i, often_out n x set e, often_out n x more (not_true (more x) (λ l. ⊎_elim (λ j. false≢true (sym e ∙ j)) (λ j. false≢true (sym i ∙ eq-eqb c x (sym j))) (more_cases set free more less c m x l))))

-- a free place is out for good: the search stands somewhere again
pub skipped_growth : (p : Problem) (n limit : ℕ) (set free more less : ℕ → Bool) (c : ℕ) → IsGrowth p n limit set free → IsMove set free more less c → IsGrowth p n limit set less
skipped_growth p n limit set free more less c h m = record {
  connected = h.connected;
  small = h.small;
  below = h.below;
  free_below = λ x e. h.free_below x (less_free set free more less c m x e);
  apart = λ x e. not_true (less x) (λ l. false≢true (sym (h.apart x e) ∙ less_free set free more less c m x l));
}

length_one_fewer : (n : ℕ) (free less : ℕ → Bool) (c : ℕ) → c < n → free c ≡ true → less c ≡ false → ((x : ℕ) → less x ≡ true → free x ≡ true) → length (places_of n less) < length (places_of n free)
length_one_fewer n free less c l is out h = omega (arith, total_within (λ z. 1) (c ∷ places_of n less) (places_of n free) more, total_ones (places_of n less), total_ones (places_of n free))
  where
    more : (x : ℕ) → count x (c ∷ places_of n less) ≤ count x (places_of n free)
    more x = by (c == x) refl (less x) refl
      where
        by : (a : Bool) → (c == x) ≡ a → (b : Bool) → less x ≡ b → count x (c ∷ places_of n less) ≤ count x (places_of n free)
        by true i b j =
            let same : c ≡ x = eqb-true c x i in
            omega (arith, ap indicator i, often_out n x less (ap less (sym same) ∙ out), often_in n x free (subst (λ z. z < n) same l) (ap free (sym same) ∙ is))
        by false i true j = omega (arith, ap indicator i, count-filter x less (places_below n) j, count-filter x free (places_below n) (h x j))
        by false i false j = omega (arith, ap indicator i, often_out n x less j)

-- with the place gone, fewer places are free
pub fewer_free : (p : Problem) (n limit : ℕ) (set free more less : ℕ → Bool) (c : ℕ) → IsGrowth p n limit set free → free c ≡ true → IsMove set free more less c → length (places_of n less) < length (places_of n free)
fewer_free p n limit set free more less c h is m = length_one_fewer n free less c (h.free_below c is) is (less_here set free more less c m) (less_free set free more less c m)

-- an extension with the place is one of the whole
pub extension_taken : (p : Problem) (n limit : ℕ) (set free more less : ℕ → Bool) (c : ℕ) → free c ≡ true → IsMove set free more less c → (g : List ℕ) → IsExtension p n limit more less g → IsExtension p n limit set free g
extension_taken p n limit set free more less c is_free m g x = record {
  in_order = x.in_order;
  connected = x.connected;
  small = x.small;
  has = λ y e. x.has y (more_set set free more less c m y e);
  within = λ y e. ⊎_elim (λ k. ⊎_elim (λ i. or_first (set y) (free y) i) (λ i. or_second (set y) (free y) (ap free i ∙ is_free)) (more_cases set free more less c m y k)) (λ k. or_second (set y) (free y) (less_free set free more less c m y k)) (or_cases (more y) (less y) (x.within y e));
}

-- and one without it
pub extension_left : (p : Problem) (n limit : ℕ) (set free more less : ℕ → Bool) (c : ℕ) → IsMove set free more less c → (g : List ℕ) → IsExtension p n limit set less g → IsExtension p n limit set free g
extension_left p n limit set free more less c m g x = record {
  in_order = x.in_order;
  connected = x.connected;
  small = x.small;
  has = x.has;
  within = λ y e. ⊎_elim (λ k. or_first (set y) (free y) k) (λ k. or_second (set y) (free y) (less_free set free more less c m y k)) (or_cases (set y) (less y) (x.within y e));
}

-- those with the place and those without it differ
pub parts_differ : (p : Problem) (n limit : ℕ) (set free more less : ℕ → Bool) (c : ℕ) → IsGrowth p n limit set free → free c ≡ true → IsMove set free more less c → (g : List ℕ) → IsExtension p n limit more less g → IsExtension p n limit set less g → ⊥
parts_differ p n limit set free more less c h is_free m g x y =
    ⊎_elim (λ k. false≢true (sym (h.apart c k) ∙ is_free)) (λ k. false≢true (sym (less_here set free more less c m) ∙ k)) (or_cases (set c) (less c) (y.within c (x.has c (more_here set free more less c m))))

-- an extension with the place is one of the set with it
with_taken : (p : Problem) (n limit : ℕ) (set free more less : ℕ → Bool) (c : ℕ) → IsMove set free more less c → (g : List ℕ) → IsExtension p n limit set free g → contains g c ≡ true → IsExtension p n limit more less g
with_taken p n limit set free more less c m g x e = record {
  in_order = x.in_order;
  connected = x.connected;
  small = x.small;
  has = λ y k. ⊎_elim (x.has y) (λ i. ap (contains g) i ∙ e) (more_cases set free more less c m y k);
  within = λ y k. ⊎_elim (λ i. or_first (more y) (less y) (more_set set free more less c m y i)) (λ i. free_or y i (y == c) refl) (or_cases (set y) (free y) (x.within y k));
}
  where
    free_or : (y : ℕ) → free y ≡ true → (b : Bool) → (y == c) ≡ b → (more y || less y) ≡ true
    free_or y i true k = or_first (more y) (less y) (ap more (eqb-true y c k) ∙ more_here set free more less c m)
    free_or y i false k = or_second (more y) (less y) (less_other set free more less c m y i (λ j. false≢true (sym k ∙ eq-eqb y c j)))

-- and one without it one of what is left
without_taken : (p : Problem) (n limit : ℕ) (set free more less : ℕ → Bool) (c : ℕ) → IsMove set free more less c → (g : List ℕ) → IsExtension p n limit set free g → contains g c ≡ false → IsExtension p n limit set less g
without_taken p n limit set free more less c m g x e = record {
  in_order = x.in_order;
  connected = x.connected;
  small = x.small;
  has = x.has;
  within = λ y k. ⊎_elim (λ i. or_first (set y) (less y) i) (λ i. or_second (set y) (less y) (less_other set free more less c m y i (λ j. false≢true (sym e ∙ (ap (contains g) (sym j) ∙ k))))) (or_cases (set y) (free y) (x.within y k));
}

-- those that pass the test are those with the place and those without it
pub fork_kept : (p : Problem) (n limit : ℕ) (keep : List ℕ → Bool) (set free more less : ℕ → Bool) (c : ℕ) (xs ys : List (List ℕ)) → IsGrowth p n limit set free → free c ≡ true → IsMove set free more less c
    → AreKept p n limit keep more less xs → AreKept p n limit keep set less ys → AreKept p n limit keep set free (xs ++ ys)
fork_kept p n limit keep set free more less c xs ys h is_free m taken left =
    are_kept p n limit keep set free (xs ++ ys)
    (λ g i. ⊎_elim
    (λ k. let s = taken_sound g k in (extension_taken p n limit set free more less c is_free m g s.0, s.1))
    (λ k. let s = left_sound g k in (extension_left p n limit set free more less c m g s.0, s.1))
    (has_append xs ys g i))
    (λ g x e. go g x e (contains g c) refl)
    (distinct_append xs ys (distinct_from_pairs xs taken.once) (distinct_from_pairs ys left.once) (λ g i j. parts_differ p n limit set free more less c h is_free m g (taken_sound g i).0 (left_sound g j).0))
  where
    taken_sound : (g : List ℕ) → Has xs g → IsExtension p n limit more less g × (keep g ≡ true)
    taken_sound = kept_sound p n limit keep more less xs taken

    left_sound : (g : List ℕ) → Has ys g → IsExtension p n limit set less g × (keep g ≡ true)
    left_sound = kept_sound p n limit keep set less ys left

    go : (g : List ℕ) → IsExtension p n limit set free g → keep g ≡ true → (b : Bool) → contains g c ≡ b → Has (xs ++ ys) g
    go g x e true i = has_left xs ys g (kept_complete p n limit keep more less xs taken g (with_taken p n limit set free more less c m g x i) e)
    go g x e false i = has_right xs ys g (kept_complete p n limit keep set less ys left g (without_taken p n limit set free more less c m g x i) e)
