-- What a search puts behind the sets that were there, and the steps that it takes.
use Rattle.std.proofs.Common.{◌≡◌, ℕ, ◌+◌, ◌<◌, Bool, true, List, [], ◌∷◌, ◌++◌, append_assoc, append-nil, length-append, sym, ap, ◌∙◌, subst, arith, Result, Ok, Err, OnOk, ⊎_elim, All}
use Rattle.std.proofs.lemmas.List.{map-append}
use Rattle.std.proofs.lemmas.List.Elements.{All-append}
use Rattle.grouping_laws.specs.Problem.{Problem}
use Rattle.place_sets.specs.PlaceSets.{places_of}
use Rattle.grouping_laws.proofs.Elements.{Has, has_all, all_from_has}
use Rattle.connected_laws.specs.Growing.{IsExtension, IsGrowth, IsMove, IsWhole, AreKept}
use Rattle.connected_laws.proofs.Growing.{leaf_kept, leaf_only, fork_kept, extension_taken, extension_left, parts_differ}
use Rattle.connected_laws.proofs.Distinct.{distinct_append, distinct_pairs, distinct_from_pairs}
use Rattle.connected_laws.specs.Listing.{IsListed, HasStepped, lists_of}

pub on_ok : {A E P Q : Type 0} (r : Result A E) → OnOk r P → (P → Q) → OnOk r Q
on_ok (Ok x) h f = f h
on_ok (Err x) h f = tt

all_one : {X : Type 0} (P : X → Type 0) (x : X) → P x → All P (x ∷ [])
all_one P x h = all_from_has P (x ∷ []) (λ y i. ⊎_elim (λ e. subst P e h) (λ (k : ⊥). absurd k) i)

-- a whole set is put behind the others
pub listed_kept : (C : Type 0) (test : C → ℕ → Bool) (p : Problem) (n limit : ℕ) (keep : List ℕ → Bool) (s : C) (free : ℕ → Bool) (old new : List C) → IsGrowth p n limit (test s) free → IsWhole p n limit (test s) free
    → keep (places_of n (test s)) ≡ true → new ≡ old ++ s ∷ [] → IsListed C test p n limit keep (test s) free old new
listed_kept C test p n limit keep s free old new h whole kept is = record {
  added = s ∷ [];
  more = is;
  kept = leaf_kept p n limit keep (test s) free h whole kept;
  below = all_one (λ z. (x : ℕ) → test z x ≡ true → x < n) s h.below;
}

-- nothing is
pub listed_none : (C : Type 0) (test : C → ℕ → Bool) (p : Problem) (n limit : ℕ) (keep : List ℕ → Bool) (set free : ℕ → Bool) (old new : List C) → AreKept p n limit keep set free [] → new ≡ old → IsListed C test p n limit keep set free old new
listed_none C test p n limit keep set free old new none is = record {
  added = [];
  more = is ∙ sym (append-nil old);
  kept = none;
  below = all_from_has (λ z. (x : ℕ) → test z x ≡ true → x < n) [] (λ y (i : ⊥). absurd i);
}

-- the sets with a place, and then those without it
pub listed_fork : (C : Type 0) (test : C → ℕ → Bool) (p : Problem) (n limit : ℕ) (keep : List ℕ → Bool) (set free more less : ℕ → Bool) (c : ℕ) (old mid new : List C) → IsGrowth p n limit set free → free c ≡ true → IsMove set free more less c
    → IsListed C test p n limit keep more less old mid → IsListed C test p n limit keep set less mid new → IsListed C test p n limit keep set free old new
listed_fork C test p n limit keep set free more less c old mid new h is m taken left = record {
  added = taken.added ++ left.added;
  more = left.more ∙ (ap (λ z. z ++ left.added) taken.more ∙ append_assoc old taken.added left.added);
  kept = subst (λ z. AreKept p n limit keep set free z) (sym (map-append (λ s. places_of n (test s)) taken.added left.added)) (fork_kept p n limit keep set free more less c (lists_of n test taken.added) (lists_of n test left.added) h is m taken.kept left.kept);
  below = All-append (λ z. (x : ℕ) → test z x ≡ true → x < n) taken.added left.added taken.below left.below;
}

pub stepped_none : (p : Problem) (n limit : ℕ) (set free : ℕ → Bool) (before after : ℕ) → after ≡ before → HasStepped p n limit set free before after
stepped_none p n limit set free before after e = record {
  sets = [];
  each = all_from_has (IsExtension p n limit set free) [] (λ y (i : ⊥). absurd i);
  once = distinct_pairs [] tt;
  steps = omega (arith, e);
}

pub stepped_leaf : (p : Problem) (n limit : ℕ) (set free : ℕ → Bool) (before after : ℕ) → IsGrowth p n limit set free → IsWhole p n limit set free → after ≡ before + 1 → HasStepped p n limit set free before after
stepped_leaf p n limit set free before after h whole e = record {
  sets = places_of n set ∷ [];
  each = all_one (IsExtension p n limit set free) (places_of n set) (leaf_only p n limit set free h whole).0;
  once = distinct_pairs (places_of n set ∷ []) (λ (k : ⊥). k, tt);
  steps = e;
}

pub stepped_taken : (p : Problem) (n limit : ℕ) (set free more less : ℕ → Bool) (c before after : ℕ) → free c ≡ true → IsMove set free more less c → HasStepped p n limit more less before after → HasStepped p n limit set free before after
stepped_taken p n limit set free more less c before after is m s = record {
  sets = s.sets;
  each = all_from_has (IsExtension p n limit set free) s.sets (λ g i. extension_taken p n limit set free more less c is m g (has_all (IsExtension p n limit more less) s.sets s.each g i));
  once = s.once;
  steps = s.steps;
}

pub stepped_fork : (p : Problem) (n limit : ℕ) (set free more less : ℕ → Bool) (c before between after : ℕ) → IsGrowth p n limit set free → free c ≡ true → IsMove set free more less c → HasStepped p n limit more less before between → HasStepped p n limit set less between after
    → HasStepped p n limit set free before after
stepped_fork p n limit set free more less c before between after h is m s t = record {
  sets = s.sets ++ t.sets;
  each = All-append (IsExtension p n limit set free) s.sets t.sets (all_from_has (IsExtension p n limit set free) s.sets (λ g i. extension_taken p n limit set free more less c is m g (left g i)))
      (all_from_has (IsExtension p n limit set free) t.sets (λ g i. extension_left p n limit set free more less c m g (right g i)));
  once = distinct_pairs (s.sets ++ t.sets) (distinct_append s.sets t.sets (distinct_from_pairs s.sets s.once) (distinct_from_pairs t.sets t.once) (λ g i j. parts_differ p n limit set free more less c h is m g (left g i) (right g j)));
  steps = omega (arith, s.steps, t.steps, length-append s.sets t.sets);
}
  where
    left : (g : List ℕ) → Has s.sets g → IsExtension p n limit more less g
    left = has_all (IsExtension p n limit more less) s.sets s.each

    right : (g : List ℕ) → Has t.sets g → IsExtension p n limit set less g
    right = has_all (IsExtension p n limit set less) t.sets t.each
