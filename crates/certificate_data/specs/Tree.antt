-- Trees as plain data: leaves, and branches at a county. What a tree proves is said in `Proving`.
use Rattle.std.specs.Prelude.{ℕ, List, [], ◌∷◌, Option}

-- the weight of a county
pub record Weight : Type 0 where
  pub county : ℕ
  pub weight : ℕ

-- how many groups of a size there may be: as many as there is room for, or as many as share the weights
pub data Allowance : Type 0 where
  room : Allowance
  weigh : (quota : ℕ) → (weights : List Weight) → Allowance

-- why no grouping that agrees with a state is greater than the target: a part that is stuck, seats that don't add up,
-- or a line for each size that bounds how many groups of it there are
pub data Leaf : Type 0 where
  stuck : (county : ℕ) → Leaf
  seats : Leaf
  bound : (lines : List Allowance) → Leaf

-- A branch is at a county: a tree for each group that it may lie in up to a limit, and one for where its group is
-- larger. A branch that names no limit has the round's.
mutual
  pub data Tree : Type 0 where
    leaf : Leaf → Tree
    branch : (county : ℕ) → (limit : Option ℕ) → (takes : Takes) → (raised : Tree) → Tree

  pub data Takes : Type 0 where
    no_take : Takes
    take : (codes : List ℕ) → (tree : Tree) → (others : Takes) → Takes

-- the groups of the takes
abbrev pub groups_of : Takes → List (List ℕ)
groups_of no_take = []
groups_of (take codes tree others) = codes ∷ groups_of others
