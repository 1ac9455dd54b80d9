-- What makes a tree a proof: valid leaves and whole branches. A branch is whole where its takes are all groups in which
-- its county may lie up to the limit: the county's group is one of them or larger.
use Rattle.std.specs.Prelude.{ℕ, ◌≡◌, ◌≤◌, true, filter, Option, Some, None, ⊤}
use Rattle.grouping_laws.specs.Problem.{Problem}
use Rattle.grouping_laws.specs.GroupsFrom.{BeginsWith}
use Rattle.certificate_data.specs.declared.format.Format.{Format}
use Rattle.certificate_data.specs.declared.format.Format.TheVariants.{Plain, Wide}
use Rattle.certificate_data.specs.Round.{Round}
use Rattle.certificate_laws.specs.State.{State, open_to, close, raise}
use Rattle.certificate_laws.specs.Groups.{AreGroupsAt}
use Rattle.certificate_data.specs.Tree.{Tree, leaf, branch, Takes, no_take, take, groups_of}
use Rattle.certificate_laws.specs.Leaves.{IsValidLeaf}

-- the limit that a branch names, or the round's
abbrev pub limit_of : Round → Option ℕ → ℕ
limit_of round None = round.limit
limit_of round (Some limit) = limit

-- a wide branch names a limit, and a plain one doesn't
abbrev pub NamesLimit : Format → Option ℕ → Type 0
NamesLimit Plain None = ⊤
NamesLimit Plain (Some limit) = ⊥
NamesLimit Wide None = ⊥
NamesLimit Wide (Some limit) = ⊤

-- in a plain round a branch has the round's limit, and stands at the first county of the order that may lie in a group
-- of that many counties
abbrev pub GoesInOrder : Format → Round → State → ℕ → ℕ → Type 0
GoesInOrder Plain round s county limit =
    (limit ≡ round.limit) × BeginsWith county (filter (open_to s limit) round.order)
GoesInOrder Wide round s county limit = ⊤

-- one may branch at the county by groups of at most `limit` counties
pub record CanBranch (round : Round) (s : State) (county limit : ℕ) : Type 0 where
  pub small : limit ≤ round.limit
  pub is_open : open_to s limit county ≡ true
  pub in_turn : GoesInOrder round.format round s county limit

-- a tree of valid leaves and whole branches
abbrev mutual
  pub Proves : Tree → Problem → Round → State → Type 0
  Proves (leaf l) p round s = IsValidLeaf p round s l
  Proves (branch county limit takes raised) p round s =
      NamesLimit round.format limit
      × CanBranch round s county (limit_of round limit)
      × AreGroupsAt p round s county (limit_of round limit) (groups_of takes)
      × EachProves takes p round s
      × Proves raised p round (raise county (limit_of round limit) s)

  pub EachProves : Takes → Problem → Round → State → Type 0
  EachProves no_take p round s = ⊤
  EachProves (take codes tree others) p round s = Proves tree p round (close codes s) × EachProves others p round s
