-- What the groups of a grouping are together.
use Rattle.std.specs.Prelude.{ℕ, ◌≡◌, ◌≤◌, List, ◌∷◌, length, All}
use Rattle.county_codes.specs.declared.group.Group.{Group}
use Rattle.grouping_laws.specs.Sets.{sum_by}
use Rattle.grouping_laws.specs.Problem.{Problem, Suits, people_of, LawfulGroup, IsProblem}
use Rattle.grouping_laws.specs.Grouping.{Grouping, Lawful, sets_of, seats_of}

-- the windows add up: the people of some groups together suit the sum of their seats
abbrev pub WindowsAddUp : Type 0
WindowsAddUp =
    (p : Problem) (m : Group) (ms : Grouping) → All (λ g. Suits p (people_of p g.codes) g.seats) (m ∷ ms)
    → Suits p (sum_by (λ g. people_of p g.codes) (m ∷ ms)) (seats_of (m ∷ ms))

-- the sizes of the sets of a lawful grouping add up to the number of counties of the problem
abbrev pub SizesAddUp : Type 0
SizesAddUp = (p : Problem) → IsProblem p → (g : Grouping) → Lawful p g → sum_by length (sets_of g) ≡ length p.counties

-- no lawful group has more counties than the problem
abbrev pub GroupsFit : Type 0
GroupsFit = (p : Problem) (g : List ℕ) → LawfulGroup p g → length g ≤ length p.counties
