-- Groupings: which are lawful, how their sizes count, and which is best.
use Rattle.std.specs.Prelude.{ℕ, ◌≡◌, ◌≤◌, ◌<◌, List, map, length, ◌==◌, All}
use Rattle.county_codes.specs.declared.group.Group.{Group}
use Rattle.grouping_laws.specs.Sets.{indicator, sum_by, count_in, contains}
use Rattle.grouping_laws.specs.Problem.{Problem, Suits, people_of, Connected}

-- the groups of a grouping
abbrev pub Grouping : Type 0
Grouping = List Group

-- the sets of a grouping, without their seats
abbrev pub sets_of : Grouping → List (List ℕ)
sets_of g = map (λ s. s.codes) g

-- the seats of all groups
abbrev pub seats_of : Grouping → ℕ
seats_of g = sum_by (λ s. s.seats) g

-- each group is connected and its people suit its seats, the groups make up the counties of the problem, and the seats
-- are those left
pub record Lawful (p : Problem) (g : Grouping) : Type 0 where
  -- each county of the problem once, and no other code
  pub once : (c : ℕ) → count_in c (sets_of g) ≡ indicator (contains p.counties c)
  pub connected : All (λ s. Connected p s.codes) g
  pub suits : All (λ s. Suits p (people_of p s.codes) s.seats) g
  pub seats : seats_of g ≡ p.seats_left

-- how many sets of the list have i counties, for each i
abbrev pub counts : List (List ℕ) → ℕ → ℕ
counts sets i = sum_by (λ s. indicator (length s == i)) sets

-- at the first size in which they differ, from 1 on, the first has more
pub record IsGreater (f g : ℕ → ℕ) : Type 0 where
  pub size : ℕ
  pub some_county : 1 ≤ size
  pub same_before : (j : ℕ) → 1 ≤ j → j < size → f j ≡ g j
  pub more : g size < f size

-- a lawful grouping than whose counts no lawful grouping's are greater
pub record IsBest (p : Problem) (g : Grouping) : Type 0 where
  pub lawful : Lawful p g
  pub none_greater : (h : Grouping) → Lawful p h → IsGreater (counts (sets_of h)) (counts (sets_of g)) → ⊥

-- no grouping is lawful
abbrev pub IsImpossible : Problem → Type 0
IsImpossible p = (g : Grouping) → Lawful p g → ⊥
