-- A search that keeps a list of groups for each size has all that a branch and an end need.
use Rattle.std.proofs.Common.{◌≡◌, ℕ, zero, suc, ◌≤◌, ◌<◌, Bool, true, List, [], ◌∷◌, ◌++◌, filter, length, refl, sym, ap, ◌∙◌, subst, arith, ◌⊎◌, inl, ⊎_elim, AllPairs, Contains, ◌↔◌}
use Rattle.grouping_laws.specs.Sets.{contains}
use Rattle.grouping_laws.specs.Problem.{Problem}
use Rattle.grouping_laws.specs.GroupsFrom.{IsBefore, IsOrder}
use Rattle.grouping_laws.proofs.Elements.{Has, has_from_contains, contains_from_has, has_append, has_left, has_right}
use Rattle.grouping_laws.proofs.Parts.{has-filter}
use Rattle.certificate_data.specs.declared.format.Format.TheVariants.{Wide}
use Rattle.certificate_data.specs.Round.{Round}
use Rattle.certificate_laws.specs.State.{State, open_to}
use Rattle.certificate_laws.specs.Fitting.{Fits, NoGroupFits}
use Rattle.certificate_laws.specs.Proving.{CanBranch, GoesInOrder}
use Rattle.certificate_laws.specs.Groups.{IsGroupAt, AreGroupsAt, IsGroupOf, AreGroupsOf, IsSetAt, IsSetWithin}
use Rattle.certificate_laws.specs.Branching.{Narrows}
use Rattle.certificate_laws.specs.Lists.{up_to, AreLists, ListsServe}
use Rattle.certificate_laws.proofs.Branches.{open_above}
use Rattle.certificate_laws.proofs.Decided.{listed_alike}
use Rattle.certificate_laws.proofs.Kept.{filter_pairs, filter_has, pairs_append}

-- what the groups are found among
set_of_group : (p : Problem) (round : Round) (s : State) (c j : ℕ) (g : List ℕ) → IsGroupAt p round s c j g → IsSetAt p round.order s c j g
set_of_group p round s c j g f = record { connected = f.fits.lawful.connected; in_order = f.in_order; has = f.has; small = f.small; inside = λ x e. open_above s (length g) j x f.small (f.fits.inside x e) }

set_of_size : (p : Problem) (round : Round) (s : State) (i : ℕ) (g : List ℕ) → IsGroupOf p round s i g → IsSetWithin p round.order s i g
set_of_size p round s i g f = record { connected = f.fits.lawful.connected; in_order = f.in_order; small = omega (arith, f.size); inside = λ x e. open_above s (length g) i x (omega (arith, f.size)) (f.fits.inside x e) }

pub kept_at : (p : Problem) (round : Round) (s : State) (c j : ℕ) (keep : List ℕ → Bool) (groups : List (List ℕ)) → ((g : List ℕ) → Contains groups g ↔ (IsSetAt p round.order s c j g × (keep g ≡ true)))
    → AllPairs (IsBefore round.order) groups → ((g : List ℕ) → IsSetAt p round.order s c j g → (keep g ≡ true) ↔ Fits round.format p s g) → AreGroupsAt p round s c j groups
kept_at p round s c j keep groups each sorted decides = record {
  each = λ g. (
    λ h. let r = (each g).0 h in record { fits = (decides g r.0).0 r.1; in_order = r.0.in_order; has = r.0.has; small = r.0.small },
    λ f. let set = set_of_group p round s c j g f in (each g).1 (set, (decides g set).1 f.fits),
  );
  sorted = sorted;
}

kept_of : (p : Problem) (round : Round) (s : State) (i : ℕ) (keep : List ℕ → Bool) (groups : List (List ℕ)) → ((g : List ℕ) → Contains groups g ↔ (IsSetWithin p round.order s i g × (keep g ≡ true)))
    → AllPairs (IsBefore round.order) groups → ((g : List ℕ) → IsSetWithin p round.order s i g → (keep g ≡ true) ↔ (Fits round.format p s g × (length g ≡ i))) → AreGroupsOf p round s i groups
kept_of p round s i keep groups each sorted decides = record {
  each = λ g. (
    λ h. let r = (each g).0 h in let f = (decides g r.0).0 r.1 in record { fits = f.0; in_order = r.0.in_order; size = f.1 },
    λ f. let set = set_of_size p round s i g f in (each g).1 (set, (decides g set).1 (f.fits, f.size)),
  );
  sorted = sorted;
}

narrower_at : (p : Problem) (round : Round) (s t : State) (c j k : ℕ) (groups : List (List ℕ)) (keep : List ℕ → Bool) → Narrows round.format p s t → k ≤ j
    → ((g : List ℕ) → Contains groups g → (keep g ≡ true) ↔ (Fits round.format p t g × (length g ≤ k))) → AreGroupsAt p round s c j groups → AreGroupsAt p round t c k (filter keep groups)
narrower_at p round s t c j k groups keep narrows lower decides a = record {
  each = λ g. (
    λ h.
        let r = has-filter keep groups g (has_from_contains (filter keep groups) g h) in
        let there = contains_from_has groups g r.0 in
        let f = (a.each g).0 there in
        let both = (decides g there).0 r.1 in
        record { fits = both.0; in_order = f.in_order; has = f.has; small = both.1 },
    λ f.
        let there = (a.each g).1 (record { fits = narrows g f.fits; in_order = f.in_order; has = f.has; small = omega (arith, f.small) }) in
        contains_from_has (filter keep groups) g (filter_has keep groups g (has_from_contains groups g there) ((decides g there).1 (f.fits, f.small))),
  );
  sorted = filter_pairs (IsBefore round.order) keep groups a.sorted;
}

narrower_of : (p : Problem) (round : Round) (s t : State) (i : ℕ) (groups : List (List ℕ)) (keep : List ℕ → Bool) → Narrows round.format p s t
    → ((g : List ℕ) → Contains groups g → (keep g ≡ true) ↔ Fits round.format p t g) → AreGroupsOf p round s i groups → AreGroupsOf p round t i (filter keep groups)
narrower_of p round s t i groups keep narrows decides a = record {
  each = λ g. (
    λ h.
        let r = has-filter keep groups g (has_from_contains (filter keep groups) g h) in
        let there = contains_from_has groups g r.0 in
        let f = (a.each g).0 there in
        record { fits = (decides g there).0 r.1; in_order = f.in_order; size = f.size },
    λ f.
        let there = (a.each g).1 (record { fits = narrows g f.fits; in_order = f.in_order; size = f.size }) in
        contains_from_has (filter keep groups) g (filter_has keep groups g (has_from_contains groups g there) ((decides g there).1 f.fits)),
  );
  sorted = filter_pairs (IsBefore round.order) keep groups a.sorted;
}

last_or : (i n : ℕ) → i ≤ suc n → (i ≤ n) ⊎ (i ≡ suc n)
last_or i n h = grind arith

up_to_has : (n : ℕ) (lists : ℕ → List (List ℕ)) (g : List ℕ) → Has (up_to n lists) g → (i : ℕ) × (1 ≤ i) × (i ≤ n) × Has (lists i) g
up_to_has zero lists g h = absurd h
up_to_has (suc n) lists g h =
    ⊎_elim (λ k. let r = up_to_has n lists g k in (r.0, r.1, omega (arith, r.2), r.3)) (λ k. (suc n, omega arith, omega arith, k)) (has_append (up_to n lists) (lists (suc n)) g h)

has_up_to : (n : ℕ) (lists : ℕ → List (List ℕ)) (i : ℕ) (g : List ℕ) → 1 ≤ i → i ≤ n → Has (lists i) g → Has (up_to n lists) g
has_up_to zero lists i g some small h = absurd (omega arith)
has_up_to (suc n) lists i g some small h =
    ⊎_elim
    (λ l. has_left (up_to n lists) (lists (suc n)) g (has_up_to n lists i g some l h))
    (λ e. has_right (up_to n lists) (lists (suc n)) g (subst (λ z. Has (lists z) g) e h))
    (last_or i n small)

module _ (p : Problem) (round : Round) (s : State) (lists : ℕ → List (List ℕ)) where
  listed_size : (n i : ℕ) → AreLists p round s n lists → 1 ≤ i → i ≤ n → (g : List ℕ) → Has (lists i) g → length g ≡ i
  listed_size n i are some small g h = (((are i some small).each g).0 (contains_from_has (lists i) g h)).size

  up_to_sorted : (n : ℕ) → AreLists p round s n lists → AllPairs (IsBefore round.order) (up_to n lists)
  up_to_sorted zero are = λ i j d a b. absurd (omega arith)
  up_to_sorted (suc n) are =
      pairs_append (IsBefore round.order) (up_to n lists) (lists (suc n)) (up_to_sorted n (λ i a b. are i a (omega arith))) (are (suc n) (omega arith) (omega arith)).sorted
      (λ x h y k. let r = up_to_has n lists x h in inl (omega (arith, r.2, listed_size (suc n) r.0 are r.1 (omega (arith, r.2)) x r.3, listed_size (suc n) (suc n) are (omega arith) (omega arith) y k)))

  takes : (c j : ℕ) → AreLists p round s j lists → AreGroupsAt p round s c j (filter (λ g. contains g c) (up_to j lists))
  takes c j are = record {
    each = λ g. (
      λ h.
          let r = has-filter (λ k. contains k c) (up_to j lists) g (has_from_contains (filter (λ k. contains k c) (up_to j lists)) g h) in
          let i = up_to_has j lists g r.0 in
          let f = ((are i.0 i.1 i.2).each g).0 (contains_from_has (lists i.0) g i.3) in
          record { fits = f.fits; in_order = f.in_order; has = r.1; small = omega (arith, f.size, i.2) },
      λ f.
          let some = f.fits.lawful.connected.some_county in
          let here = has_from_contains (lists (length g)) g (((are (length g) some f.small).each g).1 (record { fits = f.fits; in_order = f.in_order; size = refl })) in
          contains_from_has (filter (λ k. contains k c) (up_to j lists)) g (filter_has (λ k. contains k c) (up_to j lists) g (has_up_to j lists (length g) g some f.small here) f.has),
    );
    sorted = filter_pairs (IsBefore round.order) (λ g. contains g c) (up_to j lists) (up_to_sorted j are);
  }

  only_last : (j : ℕ) → 1 ≤ j → ((i : ℕ) → 1 ≤ i → i < j → lists i ≡ []) → up_to j lists ≡ lists j
  only_last zero some empty = absurd (omega arith)
  only_last (suc n) some empty = ap (λ z. z ++ lists (suc n)) (all_empty n (λ i a b. empty i a (omega arith)))
    where
      all_empty : (n : ℕ) → ((i : ℕ) → 1 ≤ i → i ≤ n → lists i ≡ []) → up_to n lists ≡ []
      all_empty zero h = refl
      all_empty (suc n) h = ap (λ z. z ++ lists (suc n)) (all_empty n (λ i a b. h i a (omega arith))) ∙ h (suc n) (omega arith) (omega arith)

  takes_of_least : (c j : ℕ) → 1 ≤ j → ((i : ℕ) → 1 ≤ i → i < j → lists i ≡ []) → AreLists p round s j lists → AreGroupsAt p round s c j (filter (λ g. contains g c) (lists j))
  takes_of_least c j some empty are = subst (λ z. AreGroupsAt p round s c j (filter (λ g. contains g c) z)) (only_last j some empty) (takes c j are)

can : (p : Problem) (round : Round) (s : State) (c j : ℕ) (g : List ℕ) → round.format ≡ Wide → IsGroupOf p round s j g → contains g c ≡ true → j ≤ round.limit → CanBranch round s c j
can p round s c j g widely f has small = record {
  small = small;
  is_open = subst (λ n. open_to s n c ≡ true) f.size (f.fits.inside c has);
  in_turn = subst (λ l. GoesInOrder l round s c j) (sym widely) tt;
}

none : (p : Problem) (round : Round) (s : State) (lists : ℕ → List (List ℕ)) → IsOrder p round.order → AreLists p round s round.limit lists
    → ((i : ℕ) → 1 ≤ i → i ≤ round.limit → lists i ≡ []) → NoGroupFits p round s
none p round s lists order are empty g fits small =
    let some = fits.lawful.connected.some_county in
    let r = listed_alike p round s (length g) (lists (length g)) order (are (length g) some small) g fits refl in
    nothing (lists (length g)) (filter (contains g) round.order) (empty (length g) some small) r.1
  where
    nothing : (xs : List (List ℕ)) (k : List ℕ) → xs ≡ [] → Has xs k → ⊥
    nothing [] k e h = h
    nothing (x ∷ xs) k e h = cc

pub lists_serve : ListsServe
lists_serve = record {
  kept_at = kept_at;
  kept_of = kept_of;
  narrower_at = narrower_at;
  narrower_of = narrower_of;
  takes = λ p round s c j lists are. takes p round s lists c j are;
  takes_of_least = λ p round s c j lists some empty are. takes_of_least p round s lists c j some empty are;
  can = can;
  none = none;
}
