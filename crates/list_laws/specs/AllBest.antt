-- What a list of all best groupings claims, with no word of how it is found. Two groupings are the same if they have
-- the same sets of counties (after Carter et al., who publish for each census the groups that all best groupings have,
-- and the choices elsewhere).
use Rattle.std.specs.Prelude.{ℕ, ◌≡◌, List, length, All, AllPairs, Contains}
use Rattle.grouping_laws.specs.Sets.{SameSet}
use Rattle.grouping_laws.specs.Problem.{Problem}
use Rattle.grouping_laws.specs.Grouping.{Grouping, sets_of, IsBest}

-- some set of the list has the same counties
abbrev pub HasSet : List (List ℕ) → List ℕ → Type 0
HasSet sets x = (y : List ℕ) × Contains sets y × SameSet y x

-- each set of one list is among those of the other, in whatever order sets and counties stand
pub record SameSets (xs ys : List (List ℕ)) : Type 0 where
  pub there : All (HasSet ys) xs
  pub back : All (HasSet xs) ys

-- each grouping of the list is best, no two are the same, and each best grouping is the same as one of them
pub record AreAllBest (p : Problem) (list : List Grouping) : Type 0 where
  pub best : All (IsBest p) list
  pub apart : AllPairs (λ g h. ¬ SameSets (sets_of g) (sets_of h)) list
  pub complete : (g : Grouping) → IsBest p g → (h : Grouping) × Contains list h × SameSets (sets_of g) (sets_of h)

-- If all groupings of a list of all best groupings have a group, each best grouping has the group.
abbrev pub SharedGroups : Type 0
SharedGroups =
    (p : Problem) (list : List Grouping) (x : List ℕ) → AreAllBest p list → All (λ h. HasSet (sets_of h) x) list
    → (g : Grouping) → IsBest p g → HasSet (sets_of g) x

-- Two lists of all best groupings of a problem have as many groupings, and the same ones. The number of best groupings
-- is a fact of the problem.
pub record ListsAreOne : Type 0 where
  pub number : (p : Problem) (xs ys : List Grouping) → AreAllBest p xs → AreAllBest p ys → length xs ≡ length ys
  pub same : (p : Problem) (xs ys : List Grouping) → AreAllBest p xs → AreAllBest p ys
      → All (λ g. (h : Grouping) × Contains ys h × SameSets (sets_of g) (sets_of h)) xs
