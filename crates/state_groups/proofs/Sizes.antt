-- The sets of one size, found from one place of a region after another. Behind each place, the sets that have a place
-- off the rest of the region were found.
use Rattle.std.proofs.Common.{◌≡◌, ℕ, ◌<◌, Bool, true, false, ◌||◌, ◌&&◌, not, ◌==◌, List, [], ◌++◌, refl, sym, ap, ◌∙◌, subst, arith, inl, inr, ⊎_elim, AllPairs, Contains}
use Rattle.std.specs.Prelude.{◌⊎◌}
use Rattle.std.specs.Cmp.Lexicographic.{slice_cmp}
use Rattle.std.specs.Ordering.{nat_cmp, is_lt}
use Rattle.std.specs.List.Sorted.{IsSortedBy, IsPermutation}
use Rattle.std.proofs.lemmas.Bool.{false≢true, and_parts, and_from, eqb-true, eq-eqb}
use Rattle.std.proofs.lemmas.List.{map-append, length-append}
use Rattle.std.proofs.lemmas.List.Elements.{All-append}
use Rattle.std.proofs.lemmas.List.Sorted.{Contains-permutation, IsPermutation-map, IsPermutation-sym}
use Rattle.grouping_laws.specs.Sets.{contains}
use Rattle.grouping_laws.specs.Problem.{Problem}
use Rattle.grouping_laws.specs.Places.{places_below}
use Rattle.grouping_laws.specs.GroupsFrom.{IsBefore}
use Rattle.grouping_laws.proofs.Elements.{Has, has_all, all_from_has, has_append, has_left, has_right, has_from_contains, contains_from_has}
use Rattle.place_sets.specs.PlaceSets.{places_of}
use Rattle.connected_laws.specs.Growing.{only, IsExtension, sort_key}
use Rattle.connected_laws.proofs.PlaceLists.{some_member}
use Rattle.connected_laws.specs.Listing.{lists_of, AreBelow, IsListed, OneStepEach, HasStepped}
use Rattle.connected_laws.proofs.Distinct.{Distinct, distinct_append, distinct_pairs, distinct_from_pairs}
use Rattle.certificate_data.specs.declared.format.Format.{Format}
use Rattle.certificate_data.specs.Round.{Round}
use Rattle.certificate_laws.specs.State.{State, open_to}
use Rattle.certificate_laws.specs.Fitting.{Fits}
use Rattle.certificate_laws.specs.Groups.{IsSetWithin, AreGroupsOf}
use Rattle.certificate_laws.proofs.Lists.{lists_serve}
use Rattle.certificate_laws.proofs.SortedKeys.{keys_before}
use Rattle.state_groups.specs.Keeping.{Decides}
use Rattle.state_groups.proofs.Moves.{AllPass, OneFails, all_or_one}

-- a set that is looked through for the size, of which a place is no longer in the region
abbrev pub Begun : Problem → ℕ → State → ℕ → (ℕ → Bool) → List ℕ → Type 0
Begun p n s i region g = IsSetWithin p (places_below n) s i g × ((c : ℕ) × (contains g c ≡ true) × (region c ≡ false))

-- a region that has open places alone
abbrev pub IsOpen : State → ℕ → (ℕ → Bool) → Type 0
IsOpen s i region = (x : ℕ) → region x ≡ true → open_to s i x ≡ true

-- a region, one of its places, and the region without it
module _ (region : ℕ → Bool) (at : ℕ) (less : ℕ → Bool) (w : (x : ℕ) → less x ≡ (region x && not (x == at))) where
  less_in : (x : ℕ) → less x ≡ true → region x ≡ true
  less_in x e = (and_parts (region x) (not (x == at)) (sym (w x) ∙ e)).0

  less_off : (x : ℕ) → region x ≡ false → less x ≡ false
  less_off x e = w x ∙ ap (λ z. z && not (x == at)) e

  less_at : less at ≡ false
  less_at = w at ∙ (ap (λ z. region at && not z) (eq-eqb at at refl) ∙ none (region at))
    where
      none : (b : Bool) → (b && false) ≡ false
      none true = refl
      none false = refl

  -- what is in the region and not in the rest of it is the place
  left_out : (x : ℕ) → region x ≡ true → less x ≡ false → x ≡ at
  left_out x e k = go (x == at) refl
    where
      go : (b : Bool) → (x == at) ≡ b → x ≡ at
      go true q = eqb-true x at q
      go false q = absurd (false≢true (sym k ∙ (w x ∙ and_from (region x) (not (x == at)) e (ap not q))))

-- the sets that grow from the place inside the region are those that are looked through, have the place and lie in the
-- region
module _ (p : Problem) (n : ℕ) (s : State) (i at : ℕ) (region free : ℕ → Bool) (opened : IsOpen s i region) (there : region at ≡ true) (f : (x : ℕ) → free x ≡ (region x && not (x == at))) where
  looked : (g : List ℕ) → IsExtension p n i (only at) free g → IsSetWithin p (places_below n) s i g × (contains g at ≡ true) × ((c : ℕ) → contains g c ≡ true → region c ≡ true)
  looked g x = (record { connected = x.connected; in_order = x.in_order; small = x.small; inside = λ c m. opened c (inside c m) }, x.has at (eq-eqb at at refl), inside)
    where
      inside : (c : ℕ) → contains g c ≡ true → region c ≡ true
      inside c m = go (c == at) refl (x.within c m)
        where
          go : (b : Bool) → (c == at) ≡ b → (b || free c) ≡ true → region c ≡ true
          go true e h = subst (λ z. region z ≡ true) (sym (eqb-true c at e)) there
          go false e h = less_in region at free f c h

  grown : (g : List ℕ) → IsSetWithin p (places_below n) s i g → contains g at ≡ true → ((c : ℕ) → contains g c ≡ true → region c ≡ true) → IsExtension p n i (only at) free g
  grown g w has inside = record {
    in_order = w.in_order;
    connected = w.connected;
    small = w.small;
    has = λ c e. subst (λ z. contains g z ≡ true) (sym (eqb-true c at e)) has;
    within = λ c m. go c m (c == at) refl;
  }
    where
      go : (c : ℕ) → contains g c ≡ true → (b : Bool) → (c == at) ≡ b → (b || free c) ≡ true
      go c m true e = refl
      go c m false e = f c ∙ and_from (region c) (not (c == at)) (inside c m) (ap not e)

-- what was found among the sets that have a place off the region
pub record IsFound (C : Type 0) (test : C → ℕ → Bool) (p : Problem) (n : ℕ) (s : State) (i : ℕ) (region : ℕ → Bool) (keep : List ℕ → Bool) (sets : List C) : Type 0 where
  pub each : (g : List ℕ) → Has (lists_of n test sets) g → Begun p n s i region g × (keep g ≡ true)
  pub every : (g : List ℕ) → Begun p n s i region g → keep g ≡ true → Has (lists_of n test sets) g
  pub once : Distinct (lists_of n test sets)
  pub below : AreBelow n test sets

-- nothing, where each open place is in the region
pub found_none : (C : Type 0) (test : C → ℕ → Bool) (p : Problem) (n : ℕ) (s : State) (i : ℕ) (region : ℕ → Bool) (keep : List ℕ → Bool) → ((x : ℕ) → region x ≡ open_to s i x) → IsFound C test p n s i region keep []
found_none C test p n s i region keep same = record {
  each = λ g h. absurd h;
  every = λ g b k. absurd (false≢true (sym b.1.2 ∙ (same b.1.0 ∙ b.0.inside b.1.0 b.1.1)));
  once = tt;
  below = all_from_has (λ z. (x : ℕ) → test z x ≡ true → x < n) [] (λ y (k : ⊥). absurd k);
}

pub found_more : (C : Type 0) (test : C → ℕ → Bool) (p : Problem) (n : ℕ) (s : State) (i at : ℕ) (keep : List ℕ → Bool) (region free less : ℕ → Bool) (old new : List C) → IsOpen s i region → region at ≡ true
    → ((x : ℕ) → free x ≡ (region x && not (x == at))) → ((x : ℕ) → less x ≡ (region x && not (x == at))) → IsFound C test p n s i region keep old → IsListed C test p n i keep (only at) free old new → IsFound C test p n s i less keep new
found_more C test p n s i at keep region free less old new opened there f w h l = subst (IsFound C test p n s i less keep) (sym l.more) (record { each = each; every = every; once = once; below = All-append (λ z. (x : ℕ) → test z x ≡ true → x < n) old l.added h.below l.below })
  where
    joined : lists_of n test (old ++ l.added) ≡ lists_of n test old ++ lists_of n test l.added
    joined = map-append (λ z. places_of n (test z)) old l.added

    late : (g : List ℕ) → Has (lists_of n test l.added) g → (IsSetWithin p (places_below n) s i g × (contains g at ≡ true) × ((c : ℕ) → contains g c ≡ true → region c ≡ true)) × (keep g ≡ true)
    late g k = let r = (l.kept.each g).0 (contains_from_has (lists_of n test l.added) g k) in (looked p n s i at region free opened there f g r.0, r.1)

    each : (g : List ℕ) → Has (lists_of n test (old ++ l.added)) g → Begun p n s i less g × (keep g ≡ true)
    each g k = ⊎_elim
        (λ j. let r = h.each g j in ((r.0.0, (r.0.1.0, r.0.1.1, less_off region at less w r.0.1.0 r.0.1.2)), r.1))
        (λ j. let r = late g j in ((r.0.0, (at, r.0.1, less_at region at less w)), r.1))
        (has_append (lists_of n test old) (lists_of n test l.added) g (subst (λ z. Has z g) joined k))

    every : (g : List ℕ) → Begun p n s i less g → keep g ≡ true → Has (lists_of n test (old ++ l.added)) g
    every g b k = subst (λ z. Has z g) (sym joined) (place (all_or_one region g))
      where
        place : AllPass region g ⊎ OneFails region g → Has (lists_of n test old ++ lists_of n test l.added) g
        place (inr r) = has_left (lists_of n test old) (lists_of n test l.added) g (h.every g (b.0, r) k)
        place (inl all) =
            let is_at = left_out region at less w b.1.0 (all b.1.0 b.1.1) b.1.2 in
            let has = subst (λ z. contains g z ≡ true) is_at b.1.1 in
            has_right (lists_of n test old) (lists_of n test l.added) g (has_from_contains (lists_of n test l.added) g ((l.kept.each g).1 (grown p n s i at region free opened there f g b.0 has all, k)))

    once : Distinct (lists_of n test (old ++ l.added))
    once = subst Distinct (sym joined) (distinct_append (lists_of n test old) (lists_of n test l.added) h.once (distinct_from_pairs (lists_of n test l.added) l.kept.once) (λ g j k.
        let a = (h.each g j).0.1 in
        absurd (false≢true (sym a.2 ∙ (late g k).0.2 a.0 a.1))))

-- where nothing is left in the region, sorted, they are the groups of the size
pub found_groups : (C : Type 0) (test : C → ℕ → Bool) (format : Format) (p : Problem) (n : ℕ) (s : State) (i : ℕ) (keep : List ℕ → Bool) (region : ℕ → Bool) (sets groups : List C) → Decides format p n i true s keep → ((x : ℕ) → region x ≡ false)
    → IsFound C test p n s i region keep sets → IsPermutation sets groups → IsSortedBy (λ g h. is_lt (slice_cmp nat_cmp (sort_key g) (sort_key h))) (lists_of n test groups)
    → (round : Round) → round.order ≡ places_below n → round.format ≡ format → AreGroupsOf p round s i (lists_of n test groups)
found_groups C test format p n s i keep region sets groups d none h moved sorted round order same =
    lists_serve.kept_of p round s i keep (lists_of n test groups)
    (λ g. (λ c. let r = there g c in (subst (λ z. IsSetWithin p z s i g) (sym order) r.0, r.1), λ x. again g (subst (λ z. IsSetWithin p z s i g) order x.0) x.1))
    (subst (λ z. AllPairs (IsBefore z) (lists_of n test groups)) (sym order) (keys_before n (lists_of n test sets) (lists_of n test groups) (distinct_pairs (lists_of n test sets) h.once) permuted sorted (λ g c. (there g c).0.in_order)))
    (λ g x. let w = subst (λ z. IsSetWithin p z s i g) order x in let q = d g w.connected w.in_order in (λ e. (subst (λ l. Fits l p s g) (sym same) (q.0 e).0, (q.0 e).1), λ f. q.1 (subst (λ l. Fits l p s g) same f.0, f.1)))
  where
    permuted : IsPermutation (lists_of n test sets) (lists_of n test groups)
    permuted = IsPermutation-map (λ c. places_of n (test c)) sets groups moved

    there : (g : List ℕ) → Contains (lists_of n test groups) g → IsSetWithin p (places_below n) s i g × (keep g ≡ true)
    there g c = let r = h.each g (has_from_contains (lists_of n test sets) g (Contains-permutation (lists_of n test groups) (lists_of n test sets) g (IsPermutation-sym (lists_of n test sets) (lists_of n test groups) permuted) c)) in (r.0.0, r.1)

    again : (g : List ℕ) → IsSetWithin p (places_below n) s i g → keep g ≡ true → Contains (lists_of n test groups) g
    again g w k =
        let b = some_member g w.connected.some_county in
        Contains-permutation (lists_of n test sets) (lists_of n test groups) g permuted (contains_from_has (lists_of n test sets) g (h.every g (w, (b.0, b.1, none b.0)) k))

-- steps for sets that have a place off the region, and then for sets that have the place and lie in it
pub steps_more : (p : Problem) (n : ℕ) (s : State) (i at : ℕ) (region free less : ℕ → Bool) (before mid after : ℕ) → IsOpen s i region → region at ≡ true → ((x : ℕ) → free x ≡ (region x && not (x == at))) → ((x : ℕ) → less x ≡ (region x && not (x == at)))
    → OneStepEach (Begun p n s i region) before mid → HasStepped p n i (only at) free mid after → OneStepEach (Begun p n s i less) before after
steps_more p n s i at region free less before mid after opened there f w h k = record {
  sets = h.sets ++ k.sets;
  each = All-append (Begun p n s i less) h.sets k.sets
      (all_from_has (Begun p n s i less) h.sets (λ g j. let r = was g j in (r.0, (r.1.0, r.1.1, less_off region at less w r.1.0 r.1.2))))
      (all_from_has (Begun p n s i less) k.sets (λ g j. let r = now g j in (r.0, (at, r.1, less_at region at less w))));
  once = distinct_pairs (h.sets ++ k.sets) (distinct_append h.sets k.sets (distinct_from_pairs h.sets h.once) (distinct_from_pairs k.sets k.once) (λ g j m. let a = (was g j).1 in absurd (false≢true (sym a.2 ∙ (now g m).2 a.0 a.1))));
  steps = omega (arith, h.steps, k.steps, length-append h.sets k.sets);
}
  where
    was : (g : List ℕ) → Has h.sets g → Begun p n s i region g
    was = has_all (Begun p n s i region) h.sets h.each

    now : (g : List ℕ) → Has k.sets g → IsSetWithin p (places_below n) s i g × (contains g at ≡ true) × ((c : ℕ) → contains g c ≡ true → region c ≡ true)
    now g j = looked p n s i at region free opened there f g (has_all (IsExtension p n i (only at) free) k.sets k.each g j)

-- the rest of a region that has open places alone has open places alone
pub less_open : (s : State) (i at : ℕ) (region less : ℕ → Bool) → ((x : ℕ) → less x ≡ (region x && not (x == at))) → IsOpen s i region → IsOpen s i less
less_open s i at region less w opened x e = opened x (less_in region at less w x e)

-- each step is one for a set that is looked through for the size
pub steps_within : (p : Problem) (n : ℕ) (s : State) (i : ℕ) (region : ℕ → Bool) (before after : ℕ) → OneStepEach (Begun p n s i region) before after → OneStepEach (IsSetWithin p (places_below n) s i) before after
steps_within p n s i region before after h = record {
  sets = h.sets;
  each = all_from_has (IsSetWithin p (places_below n) s i) h.sets (λ g j. (has_all (Begun p n s i region) h.sets h.each g j).0);
  once = h.once;
  steps = h.steps;
}
