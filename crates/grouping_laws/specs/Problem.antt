-- The problem of one chamber, and what a set of its counties is.
use Rattle.std.specs.Prelude.{ℕ, ◌+◌, ◌-◌, ◌*◌, ◌≡◌, ◌≤◌, ◌<◌, Bool, true, false, List, length}
use Rattle.grouping_laws.specs.Sets.{sum_by, count, contains}

-- The counties are named by their codes. `total_people` counts the withdrawn counties too, `seats_left` does not count
-- their seats. A district may miss the ideal population by tolerance / scale of it.
pub record Problem : Type 0 where
  pub counties : List ℕ
  pub people : ℕ → ℕ
  pub adjacent : ℕ → ℕ → Bool
  pub total_people : ℕ
  pub chamber : ℕ
  pub seats_left : ℕ
  pub numerator : ℕ
  pub denominator : ℕ

-- `people` people suit `seats` seats: at or within the tolerance of the ideal population
pub record Suits (p : Problem) (people seats : ℕ) : Type 0 where
  pub some_seat : 1 ≤ seats
  pub enough : (p.denominator - p.numerator) * seats * p.total_people ≤ p.denominator * p.chamber * people
  pub not_more : p.denominator * p.chamber * people ≤ (p.denominator + p.numerator) * seats * p.total_people

-- the people of a set of counties
abbrev pub people_of : Problem → List ℕ → ℕ
people_of p codes = sum_by p.people codes

-- some county of the set is in the part, and some county of the set is not
abbrev pub IsProperPart : List ℕ → (ℕ → Bool) → Type 0
IsProperPart codes part =
    (x : ℕ) × (y : ℕ) × (contains codes x ≡ true) × (contains codes y ≡ true) × (part x ≡ true) × (part y ≡ false)

-- some county of the set in the part is adjacent to one of the set outside the part
abbrev pub HasBorder : Problem → List ℕ → (ℕ → Bool) → Type 0
HasBorder p codes part =
    (x : ℕ) × (y : ℕ) × (contains codes x ≡ true) × (contains codes y ≡ true) × (part x ≡ true) × (part y ≡ false)
    × (p.adjacent x y ≡ true)

-- not empty, and each proper part has a border with the rest of the set
pub record Connected (p : Problem) (codes : List ℕ) : Type 0 where
  pub some_county : 1 ≤ length codes
  pub joined : (part : ℕ → Bool) → IsProperPart codes part → HasBorder p codes part

-- a connected set of counties of the problem whose people suit some number of seats
pub record LawfulGroup (p : Problem) (codes : List ℕ) : Type 0 where
  pub once : (c : ℕ) → count c codes ≤ 1
  pub listed : (c : ℕ) → contains codes c ≡ true → contains p.counties c ≡ true
  pub connected : Connected p codes
  pub seats : ℕ
  pub suits : Suits p (people_of p codes) seats

-- what every problem keeps that was built
pub record IsProblem (p : Problem) : Type 0 where
  pub once : (c : ℕ) → count c p.counties ≤ 1
  pub symmetric : (x y : ℕ) → p.adjacent x y ≡ true → p.adjacent y x ≡ true
  pub some_people : 1 ≤ p.total_people
  pub some_seats : 1 ≤ p.chamber
  pub tolerated : p.numerator < p.denominator
