-- Sets that have each county of a problem once.
use Rattle.std.proofs.Common.{◌≡◌, ◌≢◌, ℕ, ◌≤◌, List, [], ◌∷◌, ◌++◌, length, true, ◌==◌, refl, sym, ap, ◌∙◌, arith, inl, inr, AllPairs}
use Rattle.grouping_laws.specs.Sets.{indicator, sum_by, count, count_in, contains}
use Rattle.grouping_laws.specs.Problem.{Problem, people_of}
use Rattle.grouping_laws.specs.GroupsFrom.{IsOrder}
use Rattle.grouping_laws.specs.Places.{places_below, codes_at}
use Rattle.grouping_laws.specs.PlaceProblem.{at_places}
use Rattle.place_sets.proofs.Sums.{sum_by-append, total_alike, total_ones, often_some, digit_one}
use Rattle.place_sets.proofs.PlaceSums.{every}
use Rattle.grouping_laws.proofs.Elements.{Has}
use Rattle.grouping_laws.proofs.Places.{places_are_codes}
use Rattle.grouping_laws.proofs.PlaceProblem.{order_once, people_codes}
use Rattle.grouping_laws.proofs.Seated.{first_code}
use Rattle.connected_laws.proofs.Distinct.{Distinct, distinct_pairs}
use Rattle.search_ends.specs.FinishedStates.{CoverOnce}

-- the codes of all sets
abbrev joined : List (List ℕ) → List ℕ
joined [] = []
joined (g ∷ sets) = g ++ joined sets

total_joined : (f : ℕ → ℕ) (sets : List (List ℕ)) → sum_by f (joined sets) ≡ sum_by (λ g. sum_by f g) sets
total_joined f [] = refl
total_joined f (g ∷ sets) = omega (arith, sum_by-append f g (joined sets), total_joined f sets)

-- a sum over the codes of all sets is the sum over the order
pub total_covered : (p : Problem) (order : List ℕ) (sets : List (List ℕ)) (f : ℕ → ℕ) → IsOrder p order → CoverOnce p sets → sum_by (λ g. sum_by f g) sets ≡ sum_by f order
total_covered p order sets f whole once =
    sym (total_joined f sets) ∙ total_alike f (joined sets) order (λ c. total_joined (λ x. indicator (x == c)) sets ∙ (once c ∙ sym (whole c)))

-- the codes at all places are the order
codes_whole : (p : Problem) (order : List ℕ) → IsOrder p order → codes_at order (places_below (length order)) ≡ order
codes_whole p order whole =
    ap (codes_at order) (sym (every (places_below (length order))))
    ∙ (places_are_codes.kept order (order_once p order whole) (λ x. true) ∙ every order)

-- the people of all sets are those of all places
pub people_covered : (p : Problem) (order : List ℕ) (sets : List (List ℕ)) → IsOrder p order → CoverOnce p sets → sum_by (λ g. people_of p g) sets ≡ people_of (at_places p order) (places_below (length order))
people_covered p order sets whole once =
    total_covered p order sets p.people whole once
    ∙ (ap (sum_by p.people) (sym (codes_whole p order whole)) ∙ people_codes p order (places_below (length order)))

-- there are no more codes in the sets than in the order
pub size_covered : (p : Problem) (order : List ℕ) (sets : List (List ℕ)) → IsOrder p order → CoverOnce p sets → sum_by (λ g. length g) sets ≡ length order
size_covered p order sets whole once = lengths sets ∙ (total_covered p order sets (λ x. 1) whole once ∙ total_ones order)
  where
    lengths : (xs : List (List ℕ)) → sum_by (λ g. length g) xs ≡ sum_by (λ g. sum_by (λ x. 1) g) xs
    lengths [] = refl
    lengths (g ∷ xs) = omega (arith, total_ones g, lengths xs)

-- a set has no more codes than all
pub one_size : (sets : List (List ℕ)) (g : List ℕ) → Has sets g → length g ≤ sum_by (λ g. length g) sets
one_size [] g h = absurd h
one_size (x ∷ sets) g (inl e) = omega (arith, ap length e)
one_size (x ∷ sets) g (inr h) = omega (arith, one_size sets g h)

-- and there are no more sets than codes, if none is empty
pub few_sets : (sets : List (List ℕ)) → ((g : List ℕ) → Has sets g → 1 ≤ length g) → length sets ≤ sum_by (λ g. length g) sets
few_sets [] some = omega arith
few_sets (x ∷ sets) some = omega (arith, some x (inl refl), few_sets sets (λ g h. some g (inr h)))

-- sets that have each code at most once differ, if none is empty
distinct : (sets : List (List ℕ)) → ((g : List ℕ) → Has sets g → 1 ≤ length g) → ((c : ℕ) → count_in c sets ≤ 1) → Distinct sets
distinct [] some once = tt
distinct (x ∷ sets) some once = (new, distinct sets (λ g h. some g (inr h)) (λ c. omega (arith, once c)))
  where
    there : (c : ℕ) (xs : List (List ℕ)) → Has xs x → count c x ≤ count_in c xs
    there c [] h = absurd h
    there c (y ∷ xs) (inl e) = omega (arith, ap (count c) e)
    there c (y ∷ xs) (inr h) = omega (arith, there c xs h)

    new : Has sets x → ⊥
    new h =
        let c = first_code x (some x (inl refl)) in
        omega (arith, once c.0, often_some c.0 x c.1, there c.0 sets h)

pub all_differ : (p : Problem) (sets : List (List ℕ)) → ((g : List ℕ) → Has sets g → 1 ≤ length g) → CoverOnce p sets → AllPairs (λ g h. g ≢ h) sets
all_differ p sets some once = distinct_pairs sets (distinct sets some (λ c. omega (arith, once c, digit_one (contains p.counties c))))
