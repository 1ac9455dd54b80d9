-- How trees end.
use Rattle.std.proofs.Common.{◌≡◌, ℕ, ◌+◌, ◌≤◌, ◌<◌, List, [], ◌∷◌, Option, refl, sym, ◌∙◌, subst, arith, inl, inr, Contains}
use Rattle.std.proofs.lemmas.Bool.{false≢true}
use Rattle.grouping_laws.specs.Problem.{Problem}
use Rattle.grouping_laws.proofs.Elements.{contains_from_has}
use Rattle.certificate_data.specs.Round.{Round}
use Rattle.certificate_laws.specs.State.{State, close, raise}
use Rattle.certificate_laws.specs.Groups.{AreGroupsAt}
use Rattle.certificate_data.specs.Tree.{Tree, leaf, branch, Takes, no_take, take, groups_of}
use Rattle.certificate_laws.specs.Proving.{limit_of, CanBranch, NamesLimit, Proves, EachProves}
use Rattle.certificate_laws.proofs.Decided.{leaves_are_decided}
use Rattle.checker_laws.specs.Fault.{Fault}
use Rattle.checker_laws.specs.End.{End, fine, faulty, Then}
use Rattle.checker_laws.specs.Lines.{tree_lines, takes_lines}
use Rattle.checker_laws.specs.Branches.{IsBranchFault, BranchEnds, IsNextTake, behind, IsTakeFault, TakeEnds, IsMarkFault, MarkEnds}
use Rattle.checker_laws.specs.Trees.{TreeEnds, TakesEnd}
use Rattle.checker_laws.specs.Laws.{TreesEnd}
use Rattle.checker_laws.proofs.Ends.{OneEnd, fine_not, lines_one, then_one}
use Rattle.checker_laws.proofs.Leaves.{leaf_one, leaf_valid, leaf_ends, leaf_inside}

branch_apart : (round : Round) (s : State) (c j : ℕ) (f : Fault) → CanBranch round s c j → IsBranchFault round s c j f → ⊥
branch_apart round s c j f h (inl k) = false≢true (sym (k.1 c) ∙ h.is_open)
branch_apart round s c j f h (inr k) = k.2 h

branch_same : (round : Round) (s : State) (c j : ℕ) (f g : Fault) → IsBranchFault round s c j f → IsBranchFault round s c j g → f ≡ g
branch_same round s c j f g (inl h) (inl k) = h.0 ∙ sym k.0
branch_same round s c j f g (inl h) (inr k) = absurd (false≢true (sym (h.1 k.1.0) ∙ k.1.1))
branch_same round s c j f g (inr h) (inl k) = absurd (false≢true (sym (k.1 h.1.0) ∙ h.1.1))
branch_same round s c j f g (inr h) (inr k) = h.0 ∙ sym k.0

branch_one : (round : Round) (s : State) (c : ℕ) (limit : Option ℕ) (line : ℕ) → OneEnd (BranchEnds round s c limit line)
branch_one round s c limit line =
    lines_one 1 (NamesLimit round.format limit × CanBranch round s c (limit_of round limit)) (IsBranchFault round s c (limit_of round limit)) line
    (λ f h k. branch_apart round s c (limit_of round limit) f h.1 k) (branch_same round s c (limit_of round limit))

next_contained : (groups : List (List ℕ)) (codes : List ℕ) → IsNextTake groups codes → Contains groups codes
next_contained [] codes h = absurd h
next_contained (g ∷ gs) codes h = contains_from_has (g ∷ gs) codes (inl h)

take_apart : (groups : List (List ℕ)) (codes : List ℕ) (f : Fault) → IsNextTake groups codes → IsTakeFault groups codes f → ⊥
take_apart groups codes f h (inl k) = k.2 h
take_apart groups codes f h (inr k) = k.1 (next_contained groups codes h)

take_same : (groups : List (List ℕ)) (codes : List ℕ) (f g : Fault) → IsTakeFault groups codes f → IsTakeFault groups codes g → f ≡ g
take_same groups codes f g (inl h) (inl k) = h.0 ∙ sym k.0
take_same groups codes f g (inl h) (inr k) = absurd (k.1 h.1)
take_same groups codes f g (inr h) (inl k) = absurd (h.1 k.1)
take_same groups codes f g (inr h) (inr k) = h.0 ∙ sym k.0

take_one : (groups : List (List ℕ)) (codes : List ℕ) (line : ℕ) → OneEnd (TakeEnds groups codes line)
take_one groups codes line = lines_one 1 (IsNextTake groups codes) (IsTakeFault groups codes) line (take_apart groups codes) (take_same groups codes)

mark_one : (groups : List (List ℕ)) (line : ℕ) → OneEnd (MarkEnds groups line)
mark_one groups line = lines_one 1 (groups ≡ []) (IsMarkFault groups) line (λ f h k. k.1 h) (λ f g h k. h.0 ∙ sym k.0)

mutual
  tree_one : (tree : Tree) (p : Problem) (round : Round) (s : State) (line : ℕ) → OneEnd (TreeEnds tree p round s line)
  tree_one (leaf l) p round s line = leaf_one l p round s line
  tree_one (branch c limit takes raised) p round s line =
      let j = limit_of round limit in
      let behind_line : ℕ → End → Type 0 = λ next later. (groups : List (List ℕ)) × AreGroupsAt p round s c j groups × Then (TakesEnd takes p round s groups next) (TreeEnds raised p round (raise c j s)) later in
      then_one (BranchEnds round s c limit line) behind_line
      (branch_one round s c limit line)
      (λ next h x y a b.
      let same = leaves_are_decided.groups_at p round s c j b.0 a.0 b.1 a.1 in
      then_one (TakesEnd takes p round s a.0 next) (TreeEnds raised p round (raise c j s))
      (takes_one takes p round s a.0 next) (λ n k. tree_one raised p round (raise c j s) n)
      x y a.2 (subst (λ groups. Then (TakesEnd takes p round s groups next) (TreeEnds raised p round (raise c j s)) y) same b.2))

  takes_one : (takes : Takes) (p : Problem) (round : Round) (s : State) (groups : List (List ℕ)) (line : ℕ) → OneEnd (TakesEnd takes p round s groups line)
  takes_one no_take p round s groups line = mark_one groups line
  takes_one (take codes tree others) p round s groups line =
      then_one (TakeEnds groups codes line) (λ next later. Then (TreeEnds tree p round (close codes s) next) (TakesEnd others p round s (behind groups)) later)
      (take_one groups codes line)
      (λ next h. then_one (TreeEnds tree p round (close codes s) next) (TakesEnd others p round s (behind groups))
      (tree_one tree p round (close codes s) next) (λ n k. takes_one others p round s (behind groups) n))

pub next_first : (groups : List (List ℕ)) (codes : List ℕ) (others : List (List ℕ)) → IsNextTake groups codes → others ≡ behind groups → codes ∷ others ≡ groups
next_first [] codes others h e = absurd h
next_first (g ∷ gs) codes others h e = cc

mutual
  tree_proves : (tree : Tree) (p : Problem) (round : Round) (s : State) (line next : ℕ) → TreeEnds tree p round s line (fine next) → Proves tree p round s × (next ≡ line + tree_lines tree)
  tree_proves (leaf l) p round s line next h = leaf_valid l p round s line next h
  tree_proves (branch c limit takes raised) p round s line next h =
      let j = limit_of round limit in
      let t = takes_proves takes p round s h.2.0 h.0 h.2.2.0 h.2.2.1 in
      let r = tree_proves raised p round (raise c j s) h.2.2.0 next h.2.2.2 in
      ((h.1.0.0, h.1.0.1, subst (AreGroupsAt p round s c j) (sym t.0) h.2.1, t.1, r.0), omega (arith, h.1.1, t.2, r.1))

  takes_proves : (takes : Takes) (p : Problem) (round : Round) (s : State) (groups : List (List ℕ)) (line next : ℕ) → TakesEnd takes p round s groups line (fine next)
      → (groups_of takes ≡ groups) × EachProves takes p round s × (next ≡ line + takes_lines takes)
  takes_proves no_take p round s groups line next h = (sym h.0, tt, h.1)
  takes_proves (take codes tree others) p round s groups line next h =
      let t = tree_proves tree p round (close codes s) h.0 h.2.0 h.2.1 in
      let r = takes_proves others p round s (behind groups) h.2.0 next h.2.2 in
      (next_first groups codes (groups_of others) h.1.0 r.0, (t.0, r.1), omega (arith, h.1.1, t.1, r.2))

mutual
  tree_ends : (tree : Tree) (p : Problem) (round : Round) (s : State) (line : ℕ) → Proves tree p round s → TreeEnds tree p round s line (fine (line + tree_lines tree))
  tree_ends (leaf l) p round s line h = leaf_ends l p round s line h
  tree_ends (branch c limit takes raised) p round s line h =
      let j = limit_of round limit in (
        line + 1,
        ((h.0, h.1), refl),
        (
          groups_of takes,
          h.2,
          (
            line + 1 + takes_lines takes,
            takes_end takes p round s (line + 1) h.3,
            subst (λ m. TreeEnds raised p round (raise c j s) (line + 1 + takes_lines takes) (fine m)) (omega arith) (tree_ends raised p round (raise c j s) (line + 1 + takes_lines takes) h.4),
          ),
        ),
      )

  takes_end : (takes : Takes) (p : Problem) (round : Round) (s : State) (line : ℕ) → EachProves takes p round s → TakesEnd takes p round s (groups_of takes) line (fine (line + takes_lines takes))
  takes_end no_take p round s line h = (refl, refl)
  takes_end (take codes tree others) p round s line h = (
    line + 1,
    (refl, refl),
    (
      line + 1 + tree_lines tree,
      tree_ends tree p round (close codes s) (line + 1) h.0,
      subst (λ m. TakesEnd others p round s (groups_of others) (line + 1 + tree_lines tree) (fine m)) (omega arith) (takes_end others p round s (line + 1 + tree_lines tree) h.1),
    ),
  )

mutual
  tree_inside : (tree : Tree) (p : Problem) (round : Round) (s : State) (line at : ℕ) (f : Fault) → TreeEnds tree p round s line (faulty f at) → (line ≤ at) × (at < line + tree_lines tree)
  tree_inside (leaf l) p round s line at f h = leaf_inside l p round s line at f h
  tree_inside (branch c limit takes raised) p round s line at f (inl h) = (omega (arith, h.1), omega (arith, h.1))
  tree_inside (branch c limit takes raised) p round s line at f (inr (n, b, (groups, are, inl h))) =
      let r = takes_inside takes p round s groups n at f h in (omega (arith, b.1, r.0), omega (arith, b.1, r.1))
  tree_inside (branch c limit takes raised) p round s line at f (inr (n, b, (groups, are, inr h))) =
      let t = takes_proves takes p round s groups n h.0 h.1 in
      let r = tree_inside raised p round (raise c (limit_of round limit) s) h.0 at f h.2 in (omega (arith, b.1, t.2, r.0), omega (arith, b.1, t.2, r.1))

  takes_inside : (takes : Takes) (p : Problem) (round : Round) (s : State) (groups : List (List ℕ)) (line at : ℕ) (f : Fault) → TakesEnd takes p round s groups line (faulty f at) → (line ≤ at) × (at < line + takes_lines takes)
  takes_inside no_take p round s groups line at f h = (omega (arith, h.1), omega (arith, h.1))
  takes_inside (take codes tree others) p round s groups line at f (inl h) = (omega (arith, h.1), omega (arith, h.1))
  takes_inside (take codes tree others) p round s groups line at f (inr (n, b, inl h)) =
      let r = tree_inside tree p round (close codes s) n at f h in (omega (arith, b.1, r.0), omega (arith, b.1, r.1))
  takes_inside (take codes tree others) p round s groups line at f (inr (n, b, inr h)) =
      let t = tree_proves tree p round (close codes s) n h.0 h.1 in
      let r = takes_inside others p round s (behind groups) h.0 at f h.2 in (omega (arith, b.1, t.1, r.0), omega (arith, b.1, t.1, r.1))

pub trees_end : TreesEnd
trees_end = record {
  inside = λ tree p round s line at fault h. tree_inside tree p round s line at fault h;
  proves = tree_proves;
  ends = tree_ends;
  one = tree_one;
  refuses = λ tree p round s line at fault h k. fine_not (line + tree_lines tree) fault at (tree_one tree p round s line (fine (line + tree_lines tree)) (faulty fault at) (tree_ends tree p round s line k) h);
}
