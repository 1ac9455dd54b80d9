-- Seats of sets, and seats for numbers of people.
use Rattle.std.proofs.Common.{◌≡◌, ℕ, ◌+◌, ◌≤◌, ◌<◌, Bool, List, [], ◌∷◌, ◌++◌, map, take, length, get_or, refl, sym, ap, ◌∙◌, arith}
use Rattle.std.proofs.lemmas.List.{map-append, take_more, take_all}
use Rattle.grouping_laws.specs.Sets.{sum_by}
use Rattle.grouping_laws.specs.Problem.{Problem, people_of}
use Rattle.grouping_laws.specs.Ranges.{SuitAll}
use Rattle.grouping_laws.specs.GroupsFrom.{IsOrder}
use Rattle.grouping_laws.specs.Places.{places_below}
use Rattle.grouping_laws.specs.PlaceProblem.{at_places}
use Rattle.place_sets.proofs.Sums.{sum_by-map}
use Rattle.county_problem.specs.Allotting.{SuitEach}
use Rattle.state_groups.specs.PlacedValues.{codes_of_set, codes_of_sets}
use Rattle.search_ends.specs.FinishedStates.{CoverOnce}
use Rattle.search_ends.proofs.Covering.{people_covered}

-- one more of the list, with its value
pub mapped_more : {X Y : Type 0} (f : X → Y) (xs : List X) (olds news : List Y) (i : ℕ) (x : X) (y : Y) → i < length xs → x ≡ get_or xs i x → news ≡ olds ++ y ∷ [] → y ≡ f x → olds ≡ map f (take i xs) → news ≡ map f (take (i + 1) xs)
mapped_more f xs olds news i x y l at push same e =
    push
    ∙ (ap (λ z. z ++ y ∷ []) e
    ∙ (ap (λ z. map f (take i xs) ++ z ∷ []) (same ∙ ap f at)
    ∙ (sym (map-append f (take i xs) (get_or xs i x ∷ [])) ∙ ap (map f) (sym (take_more xs i x l)))))

pub mapped_all : {X Y : Type 0} (f : X → Y) (xs : List X) (olds : List Y) (i : ℕ) → length xs ≤ i → olds ≡ map f (take i xs) → olds ≡ map f xs
mapped_all f xs olds i l e = e ∙ ap (map f) (take_all i xs l)

module _ {C : Type 0} (test : C → ℕ → Bool) (p : Problem) (order : List ℕ) where
  abbrev pub people : C → ℕ
  people s = people_of p (codes_of_set order test s)

  -- seats that suit the people suit the sets
  pub suit_sets : (sets : List C) (ks : List ℕ) → SuitEach p (map people sets) ks → SuitAll p (codes_of_sets order test sets) ks
  suit_sets [] [] h = tt
  suit_sets [] (k ∷ ks) h = absurd h
  suit_sets (s ∷ sets) [] h = absurd h
  suit_sets (s ∷ sets) (k ∷ ks) h = (h.0, suit_sets sets ks h.1)

  pub suit_people : (sets : List C) (ks : List ℕ) → SuitAll p (codes_of_sets order test sets) ks → SuitEach p (map people sets) ks
  suit_people [] [] h = tt
  suit_people [] (k ∷ ks) h = absurd h
  suit_people (s ∷ sets) [] h = absurd h
  suit_people (s ∷ sets) (k ∷ ks) h = (h.0, suit_people sets ks h.1)

  -- the people of sets that have each county once
  pub all_people : (sets : List C) → IsOrder p order → CoverOnce p (codes_of_sets order test sets) → sum_by (λ n. n) (map people sets) ≡ people_of (at_places p order) (places_below (length order))
  all_people sets whole once =
      sum_by-map (λ n. n) people sets
      ∙ (sym (sum_by-map (λ g. people_of p g) (codes_of_set order test) sets) ∙ people_covered p order (codes_of_sets order test sets) whole once)

-- seats for each set are as many as sets
pub as_many : (p : Problem) (sets : List (List ℕ)) (ks : List ℕ) → SuitAll p sets ks → length ks ≡ length sets
as_many p [] [] h = refl
as_many p [] (k ∷ ks) h = absurd h
as_many p (g ∷ sets) [] h = absurd h
as_many p (g ∷ sets) (k ∷ ks) h = omega (arith, as_many p sets ks h.1)
