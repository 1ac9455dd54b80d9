-- The people of the counties in a set, and of its codes.
use Rattle.std.proofs.Common.{◌≡◌, ℕ, ◌+◌, ◌≤◌, ◌==◌, Bool, true, false, cond, ◌||◌, List, [], ◌∷◌, filter, refl, sym, ap, arith}
use Rattle.std.proofs.lemmas.Bool.{eqb-true, eq-eqb}
use Rattle.county_codes.specs.declared.county.County.{County}
use Rattle.county_codes.specs.Counties.{people_in, people_at}
use Rattle.grouping_laws.specs.Sets.{indicator, sum_by, count, contains}
use Rattle.grouping_laws.specs.Problem.{people_of}
use Rattle.grouping_laws.specs.Grouping.{sets_of}
use Rattle.county_problem.specs.ProblemValue.{problem_of, codes_of}
use Rattle.grouping_laws.proofs.Elements.{has_set, all_from_has}
use Rattle.grouping_laws.proofs.Sizes.{count-le-count_in}
use Rattle.place_sets.proofs.Sums.{total_add, often_some, digit_one}
use Rattle.list_report.specs.Listing.{people_inside}
use Rattle.list_report.specs.GroupPeople.{PeopleAreOfGroups}

nothing : (xs : List ℕ) → sum_by (λ (x : ℕ). 0) xs ≡ 0
nothing [] = refl
nothing (x ∷ xs) = omega (arith, nothing xs)

-- a county adds its people once, if its code stands in the list, and else not at all
alone : (n code : ℕ) (codes : List ℕ) → count code codes ≤ 1 → sum_by (λ c. cond (code == c) n 0) codes ≡ cond (contains codes code) n 0
alone n code [] once = refl
alone n code (x ∷ xs) once = go (code == x) refl (x == code) refl (contains xs code) refl (alone n code xs (omega (arith, once)))
  where
    go : (a : Bool) → (code == x) ≡ a → (b : Bool) → (x == code) ≡ b → (m : Bool) → contains xs code ≡ m → sum_by (λ c. cond (code == c) n 0) xs ≡ cond m n 0
        → cond a n 0 + sum_by (λ c. cond (code == c) n 0) xs ≡ cond (b || m) n 0
    go true e true k true h rest = absurd (omega (arith, once, ap indicator k, often_some code xs h))
    go true e true k false h rest = omega (arith, rest)
    go true e false k m h rest = absurd (omega (arith, ap indicator (sym k), ap indicator (eq-eqb x code (sym (eqb-true code x e)))))
    go false e true k m h rest = absurd (omega (arith, ap indicator (sym e), ap indicator (eq-eqb code x (sym (eqb-true x code k)))))
    go false e false k m h rest = omega (arith, rest)

-- so the people of the counties in a set are those of its codes
swapped : (ks : List County) (codes : List ℕ) → ((c : ℕ) → count c codes ≤ 1) → people_in (filter (λ k. contains codes k.code) ks) ≡ sum_by (people_at ks) codes
swapped [] codes once = sym (nothing codes)
swapped (k ∷ ks) codes once =
    go (contains codes k.code) (swapped ks codes once) (alone k.people k.code codes (once k.code)) (total_add (λ c. cond (k.code == c) k.people 0) (people_at ks) codes)
  where
    go : (b : Bool) → people_in (filter (λ k. contains codes k.code) ks) ≡ sum_by (people_at ks) codes → sum_by (λ c. cond (k.code == c) k.people 0) codes ≡ cond b k.people 0
        → sum_by (people_at (k ∷ ks)) codes ≡ sum_by (λ c. cond (k.code == c) k.people 0) codes + sum_by (people_at ks) codes
        → people_in (cond b (k ∷ filter (λ k. contains codes k.code) ks) (filter (λ k. contains codes k.code) ks)) ≡ sum_by (people_at (k ∷ ks)) codes
    go true rest one both = omega (arith, rest, one, both)
    go false rest one both = omega (arith, rest, one, both)

pub people_are_of_groups : PeopleAreOfGroups
people_are_of_groups v g lawful =
    all_from_has (λ s. people_inside v s.codes ≡ people_of (problem_of v) s.codes) g
    (λ s h. swapped v.counties s.codes (λ c. omega (arith, count-le-count_in c (sets_of g) s.codes (has_set g s h), lawful.once c, digit_one (contains (codes_of v.counties) c))))
