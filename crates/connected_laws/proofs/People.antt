-- The people of a set that grows, and sets that are passed over, since they stay below the fewest people that suit a
-- seat.
use Rattle.std.proofs.Common.{◌≡◌, ℕ, ◌+◌, ◌-◌, ◌*◌, ◌≤◌, ◌<◌, Bool, true, false, nat_lt, ◌||◌, List, [], ◌∷◌, length, refl, sym, ap, ◌∙◌, arith}
use Rattle.std.proofs.lemmas.Bool.{false≢true, ltb-true}
use Rattle.grouping_laws.specs.Sets.{contains}
use Rattle.grouping_laws.specs.Problem.{Problem, Suits, people_of, IsProblem}
use Rattle.grouping_laws.specs.SeatWindow.{people_bounds}
use Rattle.place_sets.specs.PlaceSets.{places_of}
use Rattle.place_sets.proofs.Sums.{total_alike}
use Rattle.place_sets.proofs.PlaceSets.{total_with}
use Rattle.grouping_laws.proofs.PruneLemmas.{stays_small}
use Rattle.connected_laws.specs.Growing.{AreKept, IsGrowth, IsMove, IsExtension, IsStart}
use Rattle.connected_laws.specs.Listing.{HasMost}
use Rattle.connected_laws.proofs.Starts.{start_alike}
use Rattle.connected_laws.proofs.Growing.{none_kept}

-- nothing is kept of a set that stays small, where what is kept suits some number of seats
pub small_none : (p : Problem) (n limit most people least : ℕ) (keep : List ℕ → Bool) (set free : ℕ → Bool) → IsProblem p → ((g : List ℕ) → IsExtension p n limit set free g → keep g ≡ true → (k : ℕ) × Suits p (people_of p g) k)
    → HasMost p free most → people ≡ people_of p (places_of n set) → least ≡ (people_bounds p 1).0 → nat_lt (people + (limit - length (places_of n set)) * most) least ≡ true → AreKept p n limit keep set free []
small_none p n limit most people least keep set free problem suiting few sum bound short = none_kept p n limit keep set free none
  where
    below : people_of p (places_of n set) + (limit - length (places_of n set)) * most < (people_bounds p 1).0
    below = omega (arith, ltb-true (people + (limit - length (places_of n set)) * most) least short, sum, bound)

    free_of : (g : List ℕ) → IsExtension p n limit set free g → (c : ℕ) → contains g c ≡ true → set c ≡ false → p.people c ≤ most
    free_of g x c m out = few c (ap (λ b. b || free c) (sym out) ∙ x.within c m)

    none : (g : List ℕ) → IsExtension p n limit set free g → keep g ≡ false
    none g x = go (keep g) refl
      where
        go : (b : Bool) → keep g ≡ b → b ≡ false
        go false e = refl
        go true e =
            let s : (k : ℕ) × Suits p (people_of p g) k = suiting g x e in
            absurd (stays_small p (omega (arith, problem.tolerated)) problem.some_seats n limit most set g below x.in_order x.has x.small (free_of g x) s.0 s.1)

-- what a candidate adds
pub people_with : (p : Problem) (n limit : ℕ) (set free more less : ℕ → Bool) (c : ℕ) → IsGrowth p n limit set free → free c ≡ true → IsMove set free more less c
    → people_of p (places_of n more) ≡ people_of p (places_of n set) + p.people c
people_with p n limit set free more less c h is m = total_with p.people n c set more (h.free_below c is) (out (set c) refl) m.with
  where
    out : (b : Bool) → set c ≡ b → b ≡ false
    out false e = refl
    out true e = absurd (false≢true (sym (h.apart c e) ∙ is))

-- the people of one place
pub people_only : (p : Problem) (n at : ℕ) (set free : ℕ → Bool) → IsStart n at set free → p.people at ≡ people_of p (places_of n set)
people_only p n at set free h = omega (arith, total_alike p.people (at ∷ []) (places_of n set) (start_alike n at set free h))
