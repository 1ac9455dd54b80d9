-- A set that is passed over is one of its own extensions, so that its step is its own.
use Rattle.std.proofs.Common.{◌≡◌, ℕ, ◌+◌, Bool, List, [], ◌∷◌, length, refl, subst, arith, inr, ⊎_elim}
use Rattle.place_sets.specs.PlaceSets.{places_of}
use Rattle.grouping_laws.specs.Problem.{Problem}
use Rattle.connected_laws.specs.Growing.{IsExtension, IsGrowth}
use Rattle.connected_laws.specs.Listing.{HasStepped}
use Rattle.connected_laws.proofs.Distinct.{distinct_pairs}
use Rattle.connected_laws.proofs.Growing.{leaf_only}
use Rattle.grouping_laws.proofs.Elements.{all_from_has, Has}

itself : (p : Problem) (n limit : ℕ) (set free : ℕ → Bool) → IsGrowth p n limit set free → IsExtension p n limit set free (places_of n set)
itself p n limit set free h =
    let small : IsGrowth p n (length (places_of n set)) set free = record {
      connected = h.connected;
      small = omega arith;
      below = h.below;
      free_below = h.free_below;
      apart = h.apart;
    } in
    let x = (leaf_only p n (length (places_of n set)) set free small (inr refl)).0 in
    record {
      in_order = x.in_order;
      connected = x.connected;
      small = h.small;
      has = x.has;
      within = x.within;
    }

pub stepped_passed : (p : Problem) (n limit : ℕ) (set free : ℕ → Bool) (before after : ℕ) → IsGrowth p n limit set free → after ≡ before + 1 → HasStepped p n limit set free before after
stepped_passed p n limit set free before after h e = record {
  sets = places_of n set ∷ [];
  each = all_from_has (IsExtension p n limit set free) (places_of n set ∷ []) one;
  once = distinct_pairs (places_of n set ∷ []) (λ (k : ⊥). k, tt);
  steps = e;
}
  where
    one : (g : List ℕ) → Has (places_of n set ∷ []) g → IsExtension p n limit set free g
    one g i = ⊎_elim (λ same. subst (IsExtension p n limit set free) same (itself p n limit set free h)) (λ (k : ⊥). absurd k) i
