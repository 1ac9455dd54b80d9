-- Where the search inside a region begins.
use Rattle.std.proofs.Common.{◌≡◌, ℕ, ◌<◌, Bool, true, false, nat_le, ◌&&◌, not, ◌==◌, List, [], refl, sym, ap, subst, arith}
use Rattle.std.specs.Cmp.Lexicographic.{slice_cmp}
use Rattle.std.specs.Ordering.{nat_cmp, is_lt}
use Rattle.std.specs.List.Sorted.{IsSortedBy, IsPermutation}
use Rattle.std.proofs.lemmas.Bool.{and_parts}
use Rattle.std.proofs.lemmas.List.Sorted.{IsPermutation-map}
use Rattle.grouping_laws.specs.Problem.{Problem}
use Rattle.grouping_laws.specs.Places.{places_below}
use Rattle.grouping_laws.proofs.Elements.{has_all, all_from_has}
use Rattle.place_sets.specs.PlaceSets.{places_of}
use Rattle.connected_laws.specs.Growing.{only, IsExtension, AreKept, sort_key}
use Rattle.connected_laws.specs.Listing.{lists_of, OneStepEach, HasStepped}
use Rattle.connected_laws.proofs.Distinct.{distinct_pairs}
use Rattle.certificate_data.specs.declared.format.Format.{Format}
use Rattle.certificate_data.specs.Round.{Round}
use Rattle.certificate_laws.specs.State.{State, open_to}
use Rattle.certificate_laws.specs.Fitting.{Fits}
use Rattle.certificate_laws.specs.Groups.{IsSetAt, AreGroupsAt}
use Rattle.certificate_laws.specs.RegionGrowth.{IsStartIn}
use Rattle.certificate_laws.proofs.RegionGrowthLemmas.{regions_are_grown}
use Rattle.state_groups.specs.Keeping.{Decides, others}

pub starts_in : (n at : ℕ) (region : ℕ → Bool) → ((x : ℕ) → region x ≡ true → x < n) → region at ≡ true → IsStartIn n at region (only at) (others region at)
starts_in n at region below there = record { below = below; there = there; set_is = λ x. refl; free_is = λ x. refl }

-- the same inside what is open at a limit
pub starts_open : (n at limit : ℕ) (s : State) (region : ℕ → Bool) → ((x : ℕ) → s.rest x ≡ true → x < n) → ((x : ℕ) → region x ≡ open_to s limit x) → open_to s limit at ≡ true → IsStartIn n at (open_to s limit) (only at) (others region at)
starts_open n at limit s region below same there = record {
  below = λ x e. below x (and_parts (s.rest x) (nat_le (s.least x) limit) e).0;
  there = there;
  set_is = λ x. refl;
  free_is = λ x. ap (λ z. z && not (x == at)) (same x);
}

-- no step
pub no_steps : (IsOne : List ℕ → Type 0) (before after : ℕ) → after ≡ before → OneStepEach IsOne before after
no_steps IsOne before after e = record {
  sets = [];
  each = all_from_has IsOne [] (λ y (i : ⊥). absurd i);
  once = distinct_pairs [] tt;
  steps = omega (arith, e);
}

-- each step is one for a set that is looked through at the branch
pub steps_at : (p : Problem) (n limit at : ℕ) (s : State) (set free : ℕ → Bool) (before after : ℕ) → IsStartIn n at (open_to s limit) set free → HasStepped p n limit set free before after → OneStepEach (IsSetAt p (places_below n) s at limit) before after
steps_at p n limit at s set free before after start h = record {
  sets = h.sets;
  each = all_from_has (IsSetAt p (places_below n) s at limit) h.sets (λ g i. (regions_are_grown.at_branch p n limit at s set free start g).0 (has_all (IsExtension p n limit set free) h.sets h.each g i));
  once = h.once;
  steps = h.steps;
}

-- what is kept and sorted is the list of the branch
pub kept_groups : (C : Type 0) (test : C → ℕ → Bool) (format : Format) (p : Problem) (n limit at : ℕ) (s : State) (set free : ℕ → Bool) (keep : List ℕ → Bool) (sets groups : List C) → Decides format p n limit false s keep → IsStartIn n at (open_to s limit) set free
    → AreKept p n limit keep set free (lists_of n test sets) → IsPermutation sets groups → IsSortedBy (λ g h. is_lt (slice_cmp nat_cmp (sort_key g) (sort_key h))) (lists_of n test groups)
    → (round : Round) → round.order ≡ places_below n → round.format ≡ format → AreGroupsAt p round s at limit (lists_of n test groups)
kept_groups C test format p n limit at s set free keep sets groups d start kept moved sorted round order same =
    regions_are_grown.groups_at p round n limit at s set free keep (lists_of n test sets) (lists_of n test groups) order start
    (λ g x. let q = d g x.connected x.in_order in (λ e. subst (λ l. Fits l p s g) (sym same) (q.0 e).0, λ f. q.1 (subst (λ l. Fits l p s g) same f, tt)))
    kept (IsPermutation-map (λ c. places_of n (test c)) sets groups moved) sorted
