-- What a loop over the lines of a tree has still to look through.
use Rattle.std.specs.Prelude.{ℕ, ◌≡◌, List, [], ◌∷◌, Option}
use Rattle.grouping_laws.specs.Problem.{Problem}
use Rattle.certificate_data.specs.Round.{Round}
use Rattle.certificate_laws.specs.State.{State, close, raise}
use Rattle.certificate_laws.specs.Groups.{AreGroupsAt, IsSetAt}
use Rattle.certificate_data.specs.Tree.{Leaf, Tree, leaf, branch, Takes, no_take, take, groups_of}
use Rattle.certificate_laws.specs.Leaves.{IsValidLeaf}
use Rattle.certificate_laws.specs.Proving.{limit_of, CanBranch, NamesLimit, Proves, EachProves}
use Rattle.checker_laws.specs.Branches.{IsNextTake, behind}
use Rattle.checker_laws.specs.Cost.{IsSetCount, Both, Where, LeafLooks, TreeLooks, TakesLook}
use Rattle.checker_laws.specs.Work.{Open, a_tree, some_takes}

abbrev pub OpenLooks : Open → Problem → Round → ℕ → Type 0
OpenLooks (a_tree tree s) p round n = TreeLooks tree p round s n
OpenLooks (some_takes takes s groups) p round n = TakesLook takes p round s groups n

-- what is open has no fault
abbrev pub OpenFine : Open → Problem → Round → Type 0
OpenFine (a_tree tree s) p round = Proves tree p round s
OpenFine (some_takes takes s groups) p round = (groups_of takes ≡ groups) × EachProves takes p round s

-- `n` sets are looked through for what is open, up to the first fault
abbrev pub WorkLooks : List Open → Problem → Round → ℕ → Type 0
WorkLooks [] p round n = n ≡ 0
WorkLooks (first ∷ more) p round n =
    Both (OpenLooks first p round) (Where (OpenFine first p round) (WorkLooks more p round)) n

-- What is to be looked through before a line is what the line looks through, and what is left after it. So what a loop
-- has looked through never exceeds what the whole tree does.
pub record LinesCost : Type 0 where
  pub leaf_looks : (l : Leaf) (p : Problem) (round : Round) (s : State) (more : List Open) (n : ℕ)
      → IsValidLeaf p round s l → WorkLooks (a_tree (leaf l) s ∷ more) p round n
      → Both (LeafLooks l p round s) (WorkLooks more p round) n
  pub branch_looks : (county : ℕ) (limit : Option ℕ) (takes : Takes) (raised : Tree) (p : Problem) (round : Round)
      (s : State) (groups : List (List ℕ)) (more : List Open) (n : ℕ)
      → NamesLimit round.format limit → CanBranch round s county (limit_of round limit)
      → AreGroupsAt p round s county (limit_of round limit) groups
      → WorkLooks (a_tree (branch county limit takes raised) s ∷ more) p round n
      → Both (IsSetCount round.order (IsSetAt p round.order s county (limit_of round limit)))
      (WorkLooks
      (some_takes takes s groups ∷ a_tree raised (raise county (limit_of round limit) s) ∷ more) p round) n
  pub take_looks : (codes : List ℕ) (tree : Tree) (others : Takes) (p : Problem) (round : Round) (s : State)
      (groups : List (List ℕ)) (more : List Open) (n : ℕ)
      → IsNextTake groups codes → WorkLooks (some_takes (take codes tree others) s groups ∷ more) p round n
      → WorkLooks (a_tree tree (close codes s) ∷ some_takes others s (behind groups) ∷ more) p round n
  pub mark_looks : (p : Problem) (round : Round) (s : State) (more : List Open) (n : ℕ)
      → WorkLooks (some_takes no_take s [] ∷ more) p round n → WorkLooks more p round n
