-- What a loop over the lines of a tree has still to judge, and what each line does to it.
use Rattle.std.specs.Prelude.{ℕ, ◌+◌, ◌≡◌, List, [], ◌∷◌, Option}
use Rattle.grouping_laws.specs.Problem.{Problem}
use Rattle.certificate_data.specs.Round.{Round}
use Rattle.certificate_laws.specs.State.{State, close, raise}
use Rattle.certificate_laws.specs.Groups.{AreGroupsAt}
use Rattle.certificate_data.specs.Tree.{Leaf, Tree, leaf, branch, Takes, no_take, take}
use Rattle.certificate_laws.specs.Proving.{limit_of, CanBranch, NamesLimit}
use Rattle.checker_laws.specs.Fault.{Fault}
use Rattle.checker_laws.specs.End.{End, fine, faulty, Then}
use Rattle.checker_laws.specs.Leaves.{LeafEnds}
use Rattle.checker_laws.specs.Branches.{IsBranchFault, IsNextTake, behind, IsTakeFault, IsMarkFault}
use Rattle.checker_laws.specs.Trees.{TreeEnds, TakesEnd}

-- a tree at a state, or the takes from one on with their mark, where these groups are still to be taken
pub data Open : Type 0 where
  a_tree : Tree → State → Open
  some_takes : Takes → State → (groups : List (List ℕ)) → Open

abbrev pub OpenEnds : Open → Problem → Round → ℕ → End → Type 0
OpenEnds (a_tree tree s) p round line end = TreeEnds tree p round s line end
OpenEnds (some_takes takes s groups) p round line end = TakesEnd takes p round s groups line end

-- how what is open ends from a line on, the innermost first
abbrev pub WorkEnds : List Open → Problem → Round → ℕ → End → Type 0
WorkEnds [] p round line end = end ≡ fine line
WorkEnds (first ∷ more) p round line end = Then (OpenEnds first p round line) (WorkEnds more p round) end

-- As what is left ends after a line, so it ends before it; and a fault ends all.
pub record LinesCarry : Type 0 where
  pub leaf_fine : (l : Leaf) (p : Problem) (round : Round) (s : State) (more : List Open) (line next : ℕ) (end : End)
      → LeafEnds l p round s line (fine next) → WorkEnds more p round next end
      → WorkEnds (a_tree (leaf l) s ∷ more) p round line end
  pub branch_fine : (county : ℕ) (limit : Option ℕ) (takes : Takes) (raised : Tree) (p : Problem) (round : Round)
      (s : State) (groups : List (List ℕ)) (more : List Open) (line : ℕ) (end : End)
      → NamesLimit round.format limit → CanBranch round s county (limit_of round limit)
      → AreGroupsAt p round s county (limit_of round limit) groups
      → WorkEnds (some_takes takes s groups ∷ a_tree raised (raise county (limit_of round limit) s)
      ∷ more) p round (line + 1) end
      → WorkEnds (a_tree (branch county limit takes raised) s ∷ more) p round line end
  pub take_fine : (codes : List ℕ) (tree : Tree) (others : Takes) (p : Problem) (round : Round) (s : State)
      (groups : List (List ℕ)) (more : List Open) (line : ℕ) (end : End)
      → IsNextTake groups codes
      → WorkEnds (a_tree tree (close codes s) ∷ some_takes others s (behind groups) ∷ more) p round (line + 1) end
      → WorkEnds (some_takes (take codes tree others) s groups ∷ more) p round line end
  pub mark_fine : (p : Problem) (round : Round) (s : State) (more : List Open) (line : ℕ) (end : End)
      → WorkEnds more p round (line + 1) end → WorkEnds (some_takes no_take s [] ∷ more) p round line end
  -- the faults
  pub leaf_fault : (l : Leaf) (p : Problem) (round : Round) (s : State) (more : List Open) (line at : ℕ) (fault : Fault)
      → LeafEnds l p round s line (faulty fault at) → WorkEnds (a_tree (leaf l) s ∷ more) p round line (faulty fault at)
  pub branch_fault : (county : ℕ) (limit : Option ℕ) (takes : Takes) (raised : Tree) (p : Problem) (round : Round)
      (s : State) (more : List Open) (line : ℕ) (fault : Fault)
      → IsBranchFault round s county (limit_of round limit) fault
      → WorkEnds (a_tree (branch county limit takes raised) s ∷ more) p round line (faulty fault line)
  pub take_fault : (codes : List ℕ) (tree : Tree) (others : Takes) (p : Problem) (round : Round) (s : State)
      (groups : List (List ℕ)) (more : List Open) (line : ℕ) (fault : Fault)
      → IsTakeFault groups codes fault
      → WorkEnds (some_takes (take codes tree others) s groups ∷ more) p round line (faulty fault line)
  pub mark_fault : (p : Problem) (round : Round) (s : State) (groups : List (List ℕ)) (more : List Open) (line : ℕ)
      (fault : Fault)
      → IsMarkFault groups fault → WorkEnds (some_takes no_take s groups ∷ more) p round line (faulty fault line)
  -- at the beginning a tree is open, and nothing behind it
  pub alone : (tree : Tree) (p : Problem) (round : Round) (s : State) (line : ℕ) (end : End)
      → WorkEnds (a_tree tree s ∷ []) p round line end → TreeEnds tree p round s line end
