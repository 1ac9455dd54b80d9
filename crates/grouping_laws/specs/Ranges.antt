-- Which numbers of seats suit sets of counties, and sets with seats.
use Rattle.std.specs.Prelude.{ℕ, ◌≡◌, ◌≤◌, ◌<◌, List, [], ◌∷◌, ◌⊎◌}
use Rattle.std.specs.List.{AllZip}
use Rattle.grouping_laws.specs.Sets.{sum_by, contains}
use Rattle.grouping_laws.specs.Problem.{Problem, Suits, people_of}
use Rattle.grouping_laws.specs.Grouping.{Grouping, Lawful}
use Rattle.grouping_laws.specs.Parts.{AreParts}

-- k is the least number of seats that suits the set's people
pub record IsLeast (p : Problem) (codes : List ℕ) (k : ℕ) : Type 0 where
  pub suits : Suits p (people_of p codes) k
  pub least : (j : ℕ) → Suits p (people_of p codes) j → k ≤ j

-- k is the greatest number of seats that suits the set's people
pub record IsMost (p : Problem) (codes : List ℕ) (k : ℕ) : Type 0 where
  pub suits : Suits p (people_of p codes) k
  pub most : (j : ℕ) → Suits p (people_of p codes) j → j ≤ k

-- `people` people suit no number of seats, or there is a least and a greatest number that they suit
abbrev pub HasRange : Problem → ℕ → Type 0
HasRange p people =
    ((k : ℕ) → Suits p people k → ⊥)
    ⊎ ((low : ℕ) × (high : ℕ) × Suits p people low × Suits p people high
    × ((k : ℕ) → Suits p people k → (low ≤ k) × (k ≤ high)))

-- sets with a number of seats for each
abbrev pub seated : List (List ℕ) → List ℕ → Grouping
seated (codes ∷ sets) (k ∷ ks) = record { seats = k; codes = codes } ∷ seated sets ks
seated _ _ = []

-- seats for each set that suit its people
abbrev pub SuitAll : Problem → List (List ℕ) → List ℕ → Type 0
SuitAll p sets ks = AllZip (λ codes k. Suits p (people_of p codes) k) sets ks

-- Where a district has more than no people, each number of people has a range.
abbrev pub PeopleHaveRanges : Type 0
PeopleHaveRanges = (p : Problem) → 1 ≤ p.total_people → p.numerator < p.denominator → (people : ℕ) → HasRange p people

-- Where some grouping is lawful, the connected parts of the problem make one with some seats.
abbrev pub PartsAreLawful : Type 0
PartsAreLawful =
    (p : Problem) (parts : List (List ℕ)) → AreParts p (contains p.counties) parts → (g : Grouping) → Lawful p g
    → (ks : List ℕ) × SuitAll p parts ks × (sum_by (λ k. k) ks ≡ p.seats_left) × Lawful p (seated parts ks)
