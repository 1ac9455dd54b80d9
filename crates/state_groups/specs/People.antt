-- What a search knows of people: the places of a region by their people, and the people that suit numbers of seats.
use Rattle.std.specs.Prelude.{ℕ, ◌≡◌, ◌<◌, ◌≤◌, ◌==◌, Bool, true, List, Option, Some, None, All, Contains, length, ⊤}
use Rattle.std.specs.List.Sorted.{IsNonDecreasingBy}
use Rattle.grouping_laws.specs.Sets.{indicator, sum_by}
use Rattle.grouping_laws.specs.Problem.{Problem, Suits, people_of}
use Rattle.place_sets.specs.PlaceSets.{places_of}
use Rattle.certificate_data.specs.declared.format.Format.{Format}
use Rattle.certificate_data.specs.declared.format.Format.TheVariants.{Wide}
use Rattle.state_groups.specs.declared.tables.Tables.{Tables}

-- places below n with their people, the fewest people first, each place of the region once
pub record AreByPeople (p : Problem) (n : ℕ) (region : ℕ → Bool) (places : List (ℕ × ℕ)) : Type 0 where
  pub each : All (λ r. (r.0 ≡ p.people r.1) × (r.1 < n)) places
  pub once : (c : ℕ) → region c ≡ true → sum_by (λ (r : ℕ × ℕ). indicator (r.1 == c)) places ≡ 1
  pub rising : IsNonDecreasingBy (λ (r : ℕ × ℕ). r.0) places
  pub few : length places ≤ 65536

-- `people` people lie in some window of the list
abbrev pub HasSeatWindow : List (ℕ × ℕ) → ℕ → Type 0
HasSeatWindow windows people = (w : ℕ × ℕ) × Contains windows w × (w.0 ≤ people) × (people ≤ w.1)

-- any number of people that suits some number of seats, up to a greatest one, is in a window of the list
abbrev pub AreWindows : Problem → ℕ → List (ℕ × ℕ) → Type 0
AreWindows p greatest windows =
    (people seats : ℕ) → people ≤ greatest → Suits p people seats → HasSeatWindow windows people

-- in a wide format the people of the rest, where the rest has more places than the limit; else nothing
abbrev pub IsDivided : Format → Problem → ℕ → ℕ → (ℕ → Bool) → Option ℕ → Type 0
IsDivided format p n limit rest None = ⊤
IsDivided format p n limit rest (Some all) =
    (format ≡ Wide) × (all ≡ people_of p (places_of n rest)) × (limit < length (places_of n rest))

-- what is made once for a state: the places of a region by people, the windows up to the people of the rest, and these
-- people
pub record AreTables (format : Format) (p : Problem) (n limit : ℕ) (rest region : ℕ → Bool)
    (tables : Tables) : Type 0 where
  pub by_people : AreByPeople p n region tables.by_people.items
  pub windows : AreWindows p (people_of p (places_of n rest)) tables.windows.items
  pub divided : IsDivided format p n limit rest tables.rest_people

-- the tables serve where fewer places are free
pub fewer_tables : (format : Format) (p : Problem) (n limit : ℕ) (rest region fewer : ℕ → Bool) (tables : Tables)
    → ((x : ℕ) → fewer x ≡ true → region x ≡ true) → AreTables format p n limit rest region tables
    → AreTables format p n limit rest fewer tables
fewer_tables format p n limit rest region fewer tables within are = record {
  by_people =
      record {
        each = are.by_people.each;
        once = λ c e. are.by_people.once c (within c e);
        rising = are.by_people.rising;
        few = are.by_people.few;
      };
  windows = are.windows;
  divided = are.divided;
}
