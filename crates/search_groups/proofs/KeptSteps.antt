-- What the loops that keep some of the groups come to, set by set.
use Rattle.std.proofs.Common.{◌≡◌, ℕ, ◌+◌, ◌≤◌, ◌<◌, Bool, true, false, not, ◌&&◌, ◌||◌, ◌==◌, ◌↔◌, List, [], ◌∷◌, ◌++◌, take, length, get_or, refl, sym, ap, ◌∙◌, subst, inl, inr, ⊎_elim}
use Rattle.std.proofs.lemmas.Bool.{false≢true, lt-ltb, eqb-true, eq-eqb}
use Rattle.grouping_laws.specs.Sets.{count, contains}
use Rattle.grouping_laws.specs.GroupsFrom.{place}
use Rattle.grouping_laws.specs.Places.{codes_at}
use Rattle.grouping_laws.specs.PlaceProblem.{code_at}
use Rattle.grouping_laws.proofs.Elements.{Has, has_all, has_get, has_append, all_from_has}
use Rattle.grouping_laws.proofs.Places.{has_member}
use Rattle.grouping_laws.proofs.PlaceCodes.{Below, member_code, code_place}
use Rattle.place_sets.specs.PlaceSets.{places_of, Meets}
use Rattle.place_sets.proofs.PlaceSets.{places_same, contains-places_of}
use Rattle.connected_laws.specs.Listing.{AreBelow}
use Rattle.connected_laws.proofs.PlaceLists.{placed_test, placed_below}
use Rattle.state_groups.specs.PlacedValues.{codes_of_set, codes_of_sets}
use Rattle.search_groups.specs.KnownGroups.{AreThose, IsApart}
use Rattle.search_groups.proofs.Those.{step_in, step_out}

-- whether no code of the second list stands in the first
abbrev pub has_none : List ℕ → List ℕ → Bool
has_none k [] = true
has_none k (c ∷ g) = not (contains k c) && has_none k g

both : (a b : Bool) → (a && b) ≡ true → (a ≡ true) × (b ≡ true)
both true b e = (refl, e)
both false b e = absurd (false≢true e)

pub not_true : (b : Bool) → not b ≡ true → b ≡ false
not_true false e = refl
not_true true e = absurd (false≢true e)

pub true_not : (b : Bool) → b ≡ false → not b ≡ true
true_not b e = ap not e

pub apart_none : (k g : List ℕ) → has_none k g ≡ true → IsApart k g
apart_none k [] e c m = absurd (false≢true m)
apart_none k (x ∷ g) e c m = go (x == c) refl m (apart_none k g (both (not (contains k x)) (has_none k g) e).1 c)
  where
    go : (b : Bool) → (x == c) ≡ b → (b || contains g c) ≡ true → (contains g c ≡ true → contains k c ≡ false) → contains k c ≡ false
    go true i h next = ap (contains k) (sym (eqb-true x c i)) ∙ not_true (contains k x) (both (not (contains k x)) (has_none k g) e).0
    go false i h next = next h

pub none_apart : (k g : List ℕ) → IsApart k g → has_none k g ≡ true
none_apart k [] apart = refl
none_apart k (x ∷ g) apart =
    ap (λ b. not b && has_none k g) (apart x (ap (λ b. b || contains g x) (eq-eqb x x refl))) ∙ none_apart k g (λ c m. apart c (onward c m))
  where
    onward : (c : ℕ) → contains g c ≡ true → contains (x ∷ g) c ≡ true
    onward c m = go (x == c)
      where
        go : (b : Bool) → (b || contains g c) ≡ true
        go true = refl
        go false = m

-- groups that have one property are those that have another, where that is the same
pub those_as : (order : List ℕ) (Is Js : List ℕ → Type 0) (groups those : List (List ℕ)) → ((g : List ℕ) → Is g ↔ Js g) → AreThose order Is groups those → AreThose order Js groups those
those_as order Is Js groups those same are = record {
  each = λ g. (λ h. let r = (are.each g).0 h in (r.0, (same g).0 r.1), λ h. (are.each g).1 (h.0, (same g).1 h.1));
  in_turn = are.in_turn;
}

module _ (C : Type 0) (test : C → ℕ → Bool) (order : List ℕ) where
  set_below : (set : C) → Below (length order) (places_of (length order) (test set))
  set_below set x h = placed_below (length order) x (test set) (has_member (places_of (length order) (test set)) x h)

  -- a group of a list of sets with places of the order alone
  pub item_below : (groups : List C) (i : ℕ) (item : C) → AreBelow (length order) test groups → i < length groups → item ≡ get_or groups i item → (x : ℕ) → test item x ≡ true → x < length order
  item_below groups i item below l e = subst (λ z. (x : ℕ) → test z x ≡ true → x < length order) (sym e) (has_all (λ z. (x : ℕ) → test z x ≡ true → x < length order) groups below (get_or groups i item) (has_get groups i item l))

  -- a copy of a group of the list is kept, with places of the order alone
  pub kept_low : (groups : List C) → AreBelow (length order) test groups → (i : ℕ) (item copy : C) (olds pushed news : List C) → i < length groups → item ≡ get_or groups i item → pushed ≡ olds ++ copy ∷ [] → news ≡ pushed → ((x : ℕ) → test copy x ≡ test item x) → AreBelow (length order) test olds → AreBelow (length order) test news
  kept_low groups below i item copy olds pushed news l e push held same low =
      subst (AreBelow (length order) test) (sym (held ∙ push)) (all_from_has (λ z. (x : ℕ) → test z x ≡ true → x < length order) (olds ++ copy ∷ []) all)
    where
      only : (x y : C) → Has (x ∷ []) y → x ≡ y
      only x y (inl k) = k
      only x y (inr k) = absurd k

      item_low : (x : ℕ) → test item x ≡ true → x < length order
      item_low = item_below groups i item below l e

      all : (z : C) → Has (olds ++ copy ∷ []) z → (x : ℕ) → test z x ≡ true → x < length order
      all z h = ⊎_elim
          (λ k. has_all (λ y. (x : ℕ) → test y x ≡ true → x < length order) olds low z k)
          (λ k. subst (λ y. (x : ℕ) → test y x ≡ true → x < length order) (only copy z k) (λ x t. item_low x (sym (same x) ∙ t)))
          (has_append olds (copy ∷ []) z h)

  module _ (Is : List ℕ → Type 0) (groups : List C) where
    -- one more group, which has the property, is kept
    pub kept_in : AreBelow (length order) test groups → (i : ℕ) (item copy : C) (olds pushed news : List C) → i < length groups → item ≡ get_or groups i item → pushed ≡ olds ++ copy ∷ [] → news ≡ pushed → ((x : ℕ) → test copy x ≡ test item x) → Is (codes_of_set order test item)
        → AreThose order Is (codes_of_sets order test (take i groups)) (codes_of_sets order test olds) → AreBelow (length order) test olds
        → AreThose order Is (codes_of_sets order test (take (i + 1) groups)) (codes_of_sets order test news) × AreBelow (length order) test news
    kept_in below i item copy olds pushed news l e push held same is are low = (
      step_in order (codes_of_set order test) Is groups i item copy olds news l e (held ∙ push) (ap (codes_at order) (places_same (length order) (test item) (test copy) same)) is are,
      kept_low groups below i item copy olds pushed news l e push held same low,
    )

    -- one more, which hasn't, is passed over
    pub kept_out : (i : ℕ) (item : C) (olds news : List C) → i < length groups → item ≡ get_or groups i item → news ≡ olds → (Is (codes_of_set order test item) → ⊥)
        → AreThose order Is (codes_of_sets order test (take i groups)) (codes_of_sets order test olds) → AreBelow (length order) test olds
        → AreThose order Is (codes_of_sets order test (take (i + 1) groups)) (codes_of_sets order test news) × AreBelow (length order) test news
    kept_out i item olds news l e same isnt are low = (
      subst (λ z. AreThose order Is (codes_of_sets order test (take (i + 1) groups)) (codes_of_sets order test z)) (sym same) (step_out order (codes_of_set order test) Is groups i item olds l e isnt are),
      subst (AreBelow (length order) test) (sym same) low,
    )

  module _ (once : (c : ℕ) → count c order ≤ 1) where
    -- the codes of a set have that of a place where the set has the place
    pub code_in : (set : C) (i : ℕ) → i < length order → contains (codes_of_set order test set) (code_at order i) ≡ test set i
    code_in set i l = member_code order once (places_of (length order) (test set)) (set_below set) i l ∙ (contains-places_of (length order) i (test set) ∙ ap (λ b. b && test set i) (lt-ltb i (length order) l))

    pub place_in : (set : C) (c : ℕ) → contains (codes_of_set order test set) c ≡ true → (place order c < length order) × (test set (place order c) ≡ true)
    place_in set c e = let r = code_place order once (places_of (length order) (test set)) (set_below set) c e in (r.0, placed_test (length order) (place order c) (test set) r.1)

    -- sets that don't meet have no code in common
    pub apart_codes : (set other : C) → Meets (test set) (test other) false → IsApart (codes_of_set order test other) (codes_of_set order test set)
    apart_codes set other off c m = go (contains (codes_of_set order test other) c) refl
      where
        go : (b : Bool) → contains (codes_of_set order test other) c ≡ b → b ≡ false
        go true e = sym (place_in other c e).1 ∙ off (place order c) (place_in set c m).1
        go false e = refl

    -- and sets that meet have
    pub meeting_codes : (set other : C) → ((x : ℕ) → test set x ≡ true → x < length order) → Meets (test set) (test other) true → IsApart (codes_of_set order test other) (codes_of_set order test set) → ⊥
    meeting_codes set other low x apart = let l = low x.0 x.1 in false≢true (sym (apart (code_at order x.0) (code_in set x.0 l ∙ x.1)) ∙ (code_in other x.0 l ∙ x.2))

    -- what a test says of a set: that it doesn't meet another, that it has a place, and that it lacks one
    pub apart_told : (set other : C) → ((x : ℕ) → test set x ≡ true → x < length order) → (answer : Bool) → Meets (test set) (test other) (not answer) → answer ≡ has_none (codes_of_set order test other) (codes_of_set order test set)
    apart_told set other low true meets = sym (none_apart (codes_of_set order test other) (codes_of_set order test set) (apart_codes set other meets))
    apart_told set other low false meets = go (has_none (codes_of_set order test other) (codes_of_set order test set)) refl
      where
        go : (b : Bool) → has_none (codes_of_set order test other) (codes_of_set order test set) ≡ b → false ≡ b
        go false e = refl
        go true e = absurd (meeting_codes set other low meets (apart_none (codes_of_set order test other) (codes_of_set order test set) e))

    pub having_told : (set : C) (i : ℕ) → i < length order → (answer : Bool) → answer ≡ test set i → answer ≡ contains (codes_of_set order test set) (code_at order i)
    having_told set i l answer e = e ∙ sym (code_in set i l)

    pub lacking_told : (set : C) (i : ℕ) → i < length order → (answer : Bool) → not answer ≡ test set i → answer ≡ not (contains (codes_of_set order test set) (code_at order i))
    lacking_told set i l true e = ap not (e ∙ sym (code_in set i l))
    lacking_told set i l false e = ap not (e ∙ sym (code_in set i l))
