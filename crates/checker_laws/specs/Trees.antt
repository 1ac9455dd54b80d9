-- How a tree ends at a state, from a line on.
use Rattle.std.specs.Prelude.{ℕ, List}
use Rattle.grouping_laws.specs.Problem.{Problem}
use Rattle.certificate_data.specs.Round.{Round}
use Rattle.certificate_laws.specs.State.{State, close, raise}
use Rattle.certificate_laws.specs.Groups.{AreGroupsAt}
use Rattle.certificate_data.specs.Tree.{Tree, leaf, branch, Takes, no_take, take}
use Rattle.certificate_laws.specs.Proving.{limit_of}
use Rattle.checker_laws.specs.End.{End, Then}
use Rattle.checker_laws.specs.Leaves.{LeafEnds}
use Rattle.checker_laws.specs.Branches.{BranchEnds, TakeEnds, MarkEnds, behind}

-- A branch is its line, its takes against the list of its groups, the mark, and the tree where the county is raised.
abbrev mutual
  pub TreeEnds : Tree → Problem → Round → State → ℕ → End → Type 0
  TreeEnds (leaf l) p round s line end = LeafEnds l p round s line end
  TreeEnds (branch county limit takes raised) p round s line end =
      Then (BranchEnds round s county limit line)
      (λ next later. (groups : List (List ℕ)) × AreGroupsAt p round s county (limit_of round limit) groups
      × Then
      (TakesEnd takes p round s groups next)
      (TreeEnds raised p round (raise county (limit_of round limit) s)) later)
      end

  -- the takes from one on, and the mark, where these groups are still to be taken
  pub TakesEnd : Takes → Problem → Round → State → List (List ℕ) → ℕ → End → Type 0
  TakesEnd no_take p round s groups line end = MarkEnds groups line end
  TakesEnd (take codes tree others) p round s groups line end =
      Then (TakeEnds groups codes line)
      (λ next later. Then
      (TreeEnds tree p round (close codes s) next)
      (TakesEnd others p round s (behind groups)) later)
      end
