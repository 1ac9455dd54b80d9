-- A proof in pieces: a tree in which numbered pieces stand where something is still to be proved, or was proved by
-- itself.
use Rattle.std.specs.Prelude.{ℕ, ◌+◌, ◌≡◌, cond, List, [], ◌∷◌, ◌++◌, length, ◌==◌, Option, Some, None, ◌⊎◌, ⊤}
use Rattle.grouping_laws.specs.Problem.{Problem}
use Rattle.certificate_data.specs.Round.{Round}
use Rattle.certificate_laws.specs.State.{State, close, raise}
use Rattle.certificate_laws.specs.Groups.{AreGroupsAt}
use Rattle.certificate_data.specs.Tree.{Tree, branch, Takes, no_take, take}
use Rattle.certificate_laws.specs.Proving.{Proves, NamesLimit, CanBranch, limit_of}

-- A piece waits, or it has its tree, or it was split at a county: one part for each group in which the county may lie
-- up to a limit, and one for where its group is larger. A tree or a branch that is no piece has no number.
mutual
  pub data Skeleton : Type 0 where
    waits : (piece : ℕ) → Skeleton
    proved : (piece : Option ℕ) → (tree : Tree) → Skeleton
    split : (piece : Option ℕ) → (county : ℕ) → (limit : Option ℕ) → (parts : Parts) → (raised : Skeleton) → Skeleton

  pub data Parts : Type 0 where
    no_part : Parts
    part : (codes : List ℕ) → (skeleton : Skeleton) → (others : Parts) → Parts

-- the groups of the parts
abbrev pub groups_in : Parts → List (List ℕ)
groups_in no_part = []
groups_in (part codes skeleton others) = codes ∷ groups_in others

-- a number, if there is one, in front of others
abbrev pub onto : Option ℕ → List ℕ → List ℕ
onto None others = others
onto (Some piece) others = piece ∷ others

-- the numbers of all pieces, in the order of a certificate
abbrev mutual
  pub pieces : Skeleton → List ℕ
  pieces (waits piece) = piece ∷ []
  pieces (proved piece tree) = onto piece []
  pieces (split piece county limit parts raised) = onto piece (pieces_in parts ++ pieces raised)

  pub pieces_in : Parts → List ℕ
  pieces_in no_part = []
  pieces_in (part codes skeleton others) = pieces skeleton ++ pieces_in others

-- the numbers of those that wait: they have no tree, and weren't split
abbrev mutual
  pub waiting : Skeleton → List ℕ
  waiting (waits piece) = piece ∷ []
  waiting (proved piece tree) = []
  waiting (split piece county limit parts raised) = waiting_in parts ++ waiting raised

  pub waiting_in : Parts → List ℕ
  waiting_in no_part = []
  waiting_in (part codes skeleton others) = waiting skeleton ++ waiting_in others

-- the piece has this tree
abbrev mutual
  pub HasTree : Skeleton → ℕ → Tree → Type 0
  HasTree (waits piece) n tree = ⊥
  HasTree (proved piece held) n tree = (piece ≡ Some n) × (held ≡ tree)
  HasTree (split piece county limit parts raised) n tree = EachHasTree parts n tree ⊎ HasTree raised n tree

  pub EachHasTree : Parts → ℕ → Tree → Type 0
  EachHasTree no_part n tree = ⊥
  EachHasTree (part codes skeleton others) n tree = HasTree skeleton n tree ⊎ EachHasTree others n tree

-- the piece was split, at the county `at` by groups of at most `most` counties
abbrev mutual
  pub WasSplit : Skeleton → ℕ → ℕ → Option ℕ → Type 0
  WasSplit (waits piece) n at most = ⊥
  WasSplit (proved piece tree) n at most = ⊥
  WasSplit (split piece county limit parts raised) n at most =
      ((piece ≡ Some n) × (county ≡ at) × (limit ≡ most)) ⊎ (EachWasSplit parts n at most ⊎ WasSplit raised n at most)

  pub EachWasSplit : Parts → ℕ → ℕ → Option ℕ → Type 0
  EachWasSplit no_part n at most = ⊥
  EachWasSplit (part codes skeleton others) n at most = WasSplit skeleton n at most ⊎ EachWasSplit others n at most

-- two, put together where both are there
abbrev pub both : {A B C : Type 0} → (A → B → C) → Option A → Option B → Option C
both f None b = None
both f (Some a) None = None
both f (Some a) (Some b) = Some (f a b)

-- the tree of a skeleton in which no piece waits: those of its pieces, put where they stand
abbrev mutual
  pub joined : Skeleton → Option Tree
  joined (waits piece) = None
  joined (proved piece tree) = Some tree
  joined (split piece county limit parts raised) = both (branch county limit) (joined_parts parts) (joined raised)

  pub joined_parts : Parts → Option Takes
  joined_parts no_part = Some no_take
  joined_parts (part codes skeleton others) = both (take codes) (joined skeleton) (joined_parts others)

-- whole branches, and trees that prove their states: a proof but for the pieces that wait
abbrev mutual
  pub IsSkeleton : Skeleton → Problem → Round → State → Type 0
  IsSkeleton (waits piece) p round s = ⊤
  IsSkeleton (proved piece tree) p round s = Proves tree p round s
  IsSkeleton (split piece county limit parts raised) p round s =
      NamesLimit round.format limit
      × CanBranch round s county (limit_of round limit)
      × AreGroupsAt p round s county (limit_of round limit) (groups_in parts)
      × EachIsSkeleton parts p round s
      × IsSkeleton raised p round (raise county (limit_of round limit) s)

  pub EachIsSkeleton : Parts → Problem → Round → State → Type 0
  EachIsSkeleton no_part p round s = ⊤
  EachIsSkeleton (part codes skeleton others) p round s =
      IsSkeleton skeleton p round (close codes s) × EachIsSkeleton others p round s

-- the skeleton in the place of a piece that waits
abbrev mutual
  pub put : ℕ → Skeleton → Skeleton → Skeleton
  put n new (waits piece) = cond (piece == n) new (waits piece)
  put n new (proved piece tree) = proved piece tree
  put n new (split piece county limit parts raised) = split piece county limit (put_in n new parts) (put n new raised)

  pub put_in : ℕ → Skeleton → Parts → Parts
  put_in n new no_part = no_part
  put_in n new (part codes skeleton others) = part codes (put n new skeleton) (put_in n new others)

-- pieces that wait for these groups, with numbers from one on
abbrev pub parts_from : ℕ → List (List ℕ) → Parts
parts_from first [] = no_part
parts_from first (codes ∷ groups) = part codes (waits first) (parts_from (first + 1) groups)

-- a piece that was split: its pieces have the numbers from one on, first those of the groups and then that of the
-- raised county
abbrev pub split_from : ℕ → ℕ → ℕ → ℕ → List (List ℕ) → Skeleton
split_from piece county limit first groups =
    split (Some piece) county (Some limit) (parts_from first groups) (waits (first + length groups))

-- the skeleton without its numbers: which pieces were split, and how, and which trees there are
abbrev mutual
  pub bare : Skeleton → Skeleton
  bare (waits piece) = waits 0
  bare (proved piece tree) = proved None tree
  bare (split piece county limit parts raised) = split None county limit (bare_parts parts) (bare raised)

  pub bare_parts : Parts → Parts
  bare_parts no_part = no_part
  bare_parts (part codes skeleton others) = part codes (bare skeleton) (bare_parts others)
