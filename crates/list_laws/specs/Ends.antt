-- The ends of a tree: the closed groups at the bound leaves that come to the target's counts.
use Rattle.std.specs.Prelude.{ℕ, ◌+◌, ◌*◌, Bool, false, cond, nat_lt, ◌||◌, List, [], ◌∷◌, ◌++◌, Option, Some, None}
use Rattle.grouping_laws.specs.Problem.{Problem}
use Rattle.grouping_laws.specs.Grouping.{Grouping, counts, sets_of}
use Rattle.certificate_data.specs.Round.{Round}
use Rattle.certificate_laws.specs.State.{State, close, raise}
use Rattle.certificate_data.specs.Tree.{Allowance, Leaf, stuck, seats, bound, Tree, leaf, branch, Takes, no_take, take}
use Rattle.certificate_laws.specs.BoundLines.{allowance}
use Rattle.certificate_laws.specs.Proving.{limit_of}

-- the counts of the target; without a target, none of any size
abbrev pub wanted : Option Grouping → ℕ → ℕ
wanted None = λ i. 0
wanted (Some t) = counts (sets_of t)

-- From size `i` on, with `used` counties used up by smaller groups, closed groups and some line together give fewer
-- groups of a size than are wanted.
abbrev pub falls_short : Problem → State → (ℕ → ℕ) → ℕ → ℕ → List Allowance → Bool
falls_short p s f i used [] = false
falls_short p s f i used (line ∷ lines) =
    nat_lt (counts s.closed i + allowance p s i used line) (f i)
    || falls_short p s f (i + 1) (used + i * allowance p s i used line) lines

-- the closed groups, if the leaf is a bound leaf that doesn't fall short
abbrev pub leaf_ends : Leaf → Problem → Round → State → List (List (List ℕ))
leaf_ends (stuck county) p round s = []
leaf_ends seats p round s = []
leaf_ends (bound lines) p round s = cond (falls_short p s (wanted round.target) 1 0 lines) [] (s.closed ∷ [])

-- the closed groups at each bound leaf that doesn't fall short, in the order of the tree
abbrev mutual
  pub ends : Tree → Problem → Round → State → List (List (List ℕ))
  ends (leaf l) p round s = leaf_ends l p round s
  ends (branch county limit takes raised) p round s =
      ends_in takes p round s ++ ends raised p round (raise county (limit_of round limit) s)

  pub ends_in : Takes → Problem → Round → State → List (List (List ℕ))
  ends_in no_take p round s = []
  ends_in (take codes tree others) p round s = ends tree p round (close codes s) ++ ends_in others p round s
