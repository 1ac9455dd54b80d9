-- How connected sets are grown and compared.
use Rattle.std.specs.Prelude.{ℕ, ◌≡◌, ◌≤◌, true, List, [], ◌∷◌}
use Rattle.grouping_laws.specs.Sets.{count, contains, SameSet}
use Rattle.grouping_laws.specs.Problem.{Problem, Connected, LawfulGroup}
use Rattle.grouping_laws.specs.Parts.{IsPart}

-- What grows and what stays connected.
pub record SetsGrow : Type 0 where
  -- one county is connected
  pub one : (p : Problem) (c : ℕ) → Connected p (c ∷ [])
  -- a county adjacent to a connected set may join it
  pub grown : (p : Problem) → ((x y : ℕ) → p.adjacent x y ≡ true → p.adjacent y x ≡ true) → (codes : List ℕ) (x c : ℕ)
      → Connected p codes → contains codes x ≡ true → p.adjacent x c ≡ true → Connected p (c ∷ codes)
  -- a part of a connected set is the whole set
  pub whole : (p : Problem) (part codes : List ℕ) (x : ℕ) → Connected p codes → IsPart p (contains codes) part
      → contains part x ≡ true → SameSet part codes
  -- the order of codes is no matter to a lawful group
  pub same_set : (p : Problem) (xs ys : List ℕ) → LawfulGroup p xs → ((c : ℕ) → count c ys ≤ 1) → SameSet xs ys
      → LawfulGroup p ys
