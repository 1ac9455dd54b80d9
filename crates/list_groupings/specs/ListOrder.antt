-- The order in which groups and groupings are listed.
use Rattle.std.specs.Prelude.{ℕ, ◌≡◌, ◌<◌, List, [], ◌∷◌, length, All, AllPairs, ◌⊎◌, ⊤}
use Rattle.std.specs.List.Sorted.{IsStrictlyIncreasing}
use Rattle.grouping_laws.specs.GroupsFrom.{IsLesser}
use Rattle.grouping_laws.specs.Grouping.{Grouping, sets_of}

-- a set is lesser where it has fewer counties, or as many and the lesser codes
abbrev pub IsLesserSet : List ℕ → List ℕ → Type 0
IsLesserSet g h = (length g < length h) ⊎ ((length g ≡ length h) × IsLesser g h)

-- at the first sets in which two lists differ the first list has the lesser one, or it ends there
abbrev pub IsLesserList : List (List ℕ) → List (List ℕ) → Type 0
IsLesserList [] (y ∷ ys) = ⊤
IsLesserList (x ∷ xs) (y ∷ ys) = IsLesserSet x y ⊎ ((x ≡ y) × IsLesserList xs ys)
IsLesserList _ _ = ⊥

-- the codes of each group ascend, and so do the groups
pub record IsInOrder (g : Grouping) : Type 0 where
  pub codes : All (λ x. IsStrictlyIncreasing x) (sets_of g)
  pub groups : AllPairs IsLesserSet (sets_of g)

-- each grouping is in order, and the groupings ascend by their lists of groups
pub record AreInOrder (list : List Grouping) : Type 0 where
  pub each : All IsInOrder list
  pub groupings : AllPairs (λ g h. IsLesserList (sets_of g) (sets_of h)) list
