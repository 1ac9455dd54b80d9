-- Partial trees: trees in which a leaf may be open, since nothing is proved there yet.
use Rattle.std.specs.Prelude.{ℕ, ◌+◌, ◌≤◌, List, [], ◌∷◌, Option, Some, None, ⊤}
use Rattle.grouping_laws.specs.Problem.{Problem}
use Rattle.certificate_data.specs.Round.{Round}
use Rattle.certificate_laws.specs.State.{State, close, raise}
use Rattle.certificate_laws.specs.Groups.{AreGroupsAt}
use Rattle.certificate_data.specs.Tree.{Tree}
use Rattle.certificate_laws.specs.Proving.{Proves, NamesLimit, CanBranch, limit_of}
use Rattle.board_laws.specs.Skeleton.{Skeleton, waits, proved, split, Parts, no_part, part}

-- an open leaf, a whole tree, or a branch with such trees in its takes and where its county is raised
mutual
  pub data PartialTree : Type 0 where
    open_leaf : PartialTree
    whole : (tree : Tree) → PartialTree
    begun : (county : ℕ) → (limit : Option ℕ) → (takes : PartialTakes) → (raised : PartialTree) → PartialTree

  pub data PartialTakes : Type 0 where
    no_begun : PartialTakes
    take_begun : (codes : List ℕ) → (tree : PartialTree) → (others : PartialTakes) → PartialTakes

-- how many of its leaves are open
abbrev mutual
  pub open_leaves : PartialTree → ℕ
  open_leaves open_leaf = 1
  open_leaves (whole tree) = 0
  open_leaves (begun county limit takes raised) = open_in takes + open_leaves raised

  pub open_in : PartialTakes → ℕ
  open_in no_begun = 0
  open_in (take_begun codes tree others) = open_leaves tree + open_in others

-- the groups of the takes
abbrev pub begun_groups : PartialTakes → List (List ℕ)
begun_groups no_begun = []
begun_groups (take_begun codes tree others) = codes ∷ begun_groups others

-- it proves the state but for its open leaves
abbrev mutual
  pub ProvesPart : PartialTree → Problem → Round → State → Type 0
  ProvesPart open_leaf p round s = ⊤
  ProvesPart (whole tree) p round s = Proves tree p round s
  ProvesPart (begun county limit takes raised) p round s =
      NamesLimit round.format limit
      × CanBranch round s county (limit_of round limit)
      × AreGroupsAt p round s county (limit_of round limit) (begun_groups takes)
      × EachProvesPart takes p round s
      × ProvesPart raised p round (raise county (limit_of round limit) s)

  pub EachProvesPart : PartialTakes → Problem → Round → State → Type 0
  EachProvesPart no_begun p round s = ⊤
  EachProvesPart (take_begun codes tree others) p round s =
      ProvesPart tree p round (close codes s) × EachProvesPart others p round s

-- a branch was begun, and some leaf is open
abbrev pub IsPart : PartialTree → Type 0
IsPart open_leaf = ⊥
IsPart (whole tree) = ⊥
IsPart (begun county limit takes raised) = 1 ≤ open_leaves (begun county limit takes raised)

-- its skeleton: at its open leaves, in their order, pieces wait that have the numbers from one on
abbrev mutual
  pub skeleton_from : ℕ → PartialTree → Skeleton
  skeleton_from first open_leaf = waits first
  skeleton_from first (whole tree) = proved None tree
  skeleton_from first (begun county limit takes raised) =
      split None county limit (begun_parts first takes) (skeleton_from (first + open_in takes) raised)

  pub begun_parts : ℕ → PartialTakes → Parts
  begun_parts first no_begun = no_part
  begun_parts first (take_begun codes tree others) =
      part codes (skeleton_from first tree) (begun_parts (first + open_leaves tree) others)

-- the same skeleton, of which the branch at the root is this piece
abbrev pub as_piece : ℕ → Skeleton → Skeleton
as_piece n (waits piece) = waits piece
as_piece n (proved piece tree) = proved piece tree
as_piece n (split piece county limit parts raised) = split (Some n) county limit parts raised

-- one branch, of which all leaves are open
abbrev pub open_takes : List (List ℕ) → PartialTakes
open_takes [] = no_begun
open_takes (codes ∷ groups) = take_begun codes open_leaf (open_takes groups)

abbrev pub open_branch : ℕ → ℕ → List (List ℕ) → PartialTree
open_branch county limit groups = begun county (Some limit) (open_takes groups) open_leaf
