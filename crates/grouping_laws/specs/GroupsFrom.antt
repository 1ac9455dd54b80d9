-- The lawful groups from a place of an order of the counties.
use Rattle.std.specs.Prelude.{ℕ, suc, ◌≡◌, ◌≤◌, ◌<◌, cond, Bool, List, [], ◌∷◌, map, length, ◌==◌, AllPairs, Contains}
use Rattle.std.specs.Prelude.{filter, ◌⊎◌, ◌↔◌}
use Rattle.grouping_laws.specs.Sets.{indicator, count, contains, Inside}
use Rattle.grouping_laws.specs.Problem.{Problem, Connected, LawfulGroup}

-- the order names each county of the problem once
abbrev pub IsOrder : Problem → List ℕ → Type 0
IsOrder p order = (c : ℕ) → count c order ≡ indicator (contains p.counties c)

-- where a county stands in the order, from 0
abbrev pub place : List ℕ → ℕ → ℕ
place [] c = 0
place (x ∷ xs) c = cond (x == c) 0 (suc (place xs c))

-- at the first number in which two lists differ, the first list has less
abbrev pub IsLesser : List ℕ → List ℕ → Type 0
IsLesser (x ∷ xs) (y ∷ ys) = (x < y) ⊎ ((x ≡ y) × IsLesser xs ys)
IsLesser _ _ = ⊥

-- sets stand by size, then by list of places
abbrev pub IsBefore : List ℕ → List ℕ → List ℕ → Type 0
IsBefore order g h =
    (length g < length h) ⊎ ((length g ≡ length h) × IsLesser (map (place order) g) (map (place order) h))

-- a list begins with c
abbrev pub BeginsWith : ℕ → List ℕ → Type 0
BeginsWith c codes = (others : List ℕ) × (codes ≡ c ∷ others)

-- a lawful group inside the region whose first place is the county's, of size at most the limit, its codes in the order
-- of places
pub record IsGroupFrom (p : Problem) (order : List ℕ) (limit county : ℕ) (region : ℕ → Bool) (g : List ℕ) : Type 0 where
  pub lawful : LawfulGroup p g
  pub in_order : filter (contains g) order ≡ g
  pub first : BeginsWith county g
  pub small : length g ≤ limit
  pub inside : Inside region g

-- all of them, sorted by size and then by lists of places
pub record AreGroupsFrom (p : Problem) (order : List ℕ) (limit county : ℕ) (region : ℕ → Bool)
    (groups : List (List ℕ)) : Type 0 where
  pub each : (g : List ℕ) → Contains groups g ↔ IsGroupFrom p order limit county region g
  pub sorted : AllPairs (IsBefore order) groups

-- a connected set whose first place is the county's, of size at most the limit, its codes in the order of places
pub record IsSetFrom (p : Problem) (order : List ℕ) (limit county : ℕ) (g : List ℕ) : Type 0 where
  pub connected : Connected p g
  pub in_order : filter (contains g) order ≡ g
  pub first : BeginsWith county g
  pub small : length g ≤ limit
