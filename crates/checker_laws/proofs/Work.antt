-- What each line does to what is left to judge.
use Rattle.std.proofs.Common.{ℕ, ◌+◌, List, [], ◌∷◌, Option, refl, sym, subst, inl, inr}
use Rattle.grouping_laws.specs.Problem.{Problem}
use Rattle.certificate_data.specs.Round.{Round}
use Rattle.certificate_laws.specs.State.{State, close, raise}
use Rattle.certificate_laws.specs.Groups.{AreGroupsAt}
use Rattle.certificate_data.specs.Tree.{Tree, branch, Takes, take}
use Rattle.certificate_laws.specs.Proving.{limit_of, CanBranch, NamesLimit}
use Rattle.checker_laws.specs.End.{End, fine, faulty, Then}
use Rattle.checker_laws.specs.Leaves.{LeafEnds}
use Rattle.checker_laws.specs.Branches.{BranchEnds, IsNextTake, TakeEnds, MarkEnds, behind}
use Rattle.checker_laws.specs.Trees.{TreeEnds, TakesEnd}
use Rattle.checker_laws.specs.Work.{Open, a_tree, some_takes, WorkEnds, LinesCarry}
use Rattle.checker_laws.proofs.Ends.{fine_not}

then_from : (First : End → Type 0) (Second : ℕ → End → Type 0) (m : ℕ) (end : End) → First (fine m) → Second m end → Then First Second end
then_from First Second m (fine x) a b = (m, a, b)
then_from First Second m (faulty f l) a b = inr (m, a, b)

then_both : (First : End → Type 0) (Second Third : ℕ → End → Type 0) (m : ℕ) (end : End) → First (fine m) → Then (Second m) Third end → Then (Then First Second) Third end
then_both First Second Third m (fine x) a b = (b.0, (m, a, b.1), b.2)
then_both First Second Third m (faulty f l) a (inl b) = inl (inr (m, a, b))
then_both First Second Third m (faulty f l) a (inr b) = inr (b.0, (m, a, b.1), b.2)

-- three in a row
then_row : (First : End → Type 0) (Second Third : ℕ → End → Type 0) (end : End) → Then First (λ n. Then (Second n) Third) end → Then (Then First Second) Third end
then_row First Second Third (fine x) h = (h.2.0, (h.0, h.1, h.2.1), h.2.2)
then_row First Second Third (faulty f l) (inl h) = inl (inl h)
then_row First Second Third (faulty f l) (inr (m, a, inl b)) = inl (inr (m, a, b))
then_row First Second Third (faulty f l) (inr (m, a, inr b)) = inr (b.0, (m, a, b.1), b.2)

-- what is asked beside the second thing goes with it
then_with : (First Held : End → Type 0) (Third : ℕ → End → Type 0) (end : End) → ((e : End) → First e → Held e) → Then First Third end → Then Held Third end
then_with First Held Third (fine x) f h = (h.0, f (fine h.0) h.1, h.2)
then_with First Held Third (faulty g l) f (inl h) = inl (f (faulty g l) h)
then_with First Held Third (faulty g l) f (inr h) = inr (h.0, f (fine h.0) h.1, h.2)

branch_carries : (c : ℕ) (limit : Option ℕ) (takes : Takes) (raised : Tree) (p : Problem) (round : Round) (s : State) (groups : List (List ℕ)) (more : List Open) (line : ℕ) (end : End)
    → NamesLimit round.format limit → CanBranch round s c (limit_of round limit) → AreGroupsAt p round s c (limit_of round limit) groups
    → WorkEnds (some_takes takes s groups ∷ a_tree raised (raise c (limit_of round limit) s) ∷ more) p round (line + 1) end
    → WorkEnds (a_tree (branch c limit takes raised) s ∷ more) p round line end
branch_carries c limit takes raised p round s groups more line end names can are h =
    let j = limit_of round limit in
    let held : ℕ → End → Type 0 = λ next later. (gs : List (List ℕ)) × AreGroupsAt p round s c j gs × Then (TakesEnd takes p round s gs next) (TreeEnds raised p round (raise c j s)) later in
    then_both (BranchEnds round s c limit line) held (WorkEnds more p round) (line + 1) end ((names, can), refl)
    (then_with (Then (TakesEnd takes p round s groups (line + 1)) (TreeEnds raised p round (raise c j s))) (held (line + 1)) (WorkEnds more p round) end
    (λ e k. (groups, are, k))
    (then_row (TakesEnd takes p round s groups (line + 1)) (TreeEnds raised p round (raise c j s)) (WorkEnds more p round) end h))

take_carries : (codes : List ℕ) (tree : Tree) (others : Takes) (p : Problem) (round : Round) (s : State) (groups : List (List ℕ)) (more : List Open) (line : ℕ) (end : End)
    → IsNextTake groups codes → WorkEnds (a_tree tree (close codes s) ∷ some_takes others s (behind groups) ∷ more) p round (line + 1) end
    → WorkEnds (some_takes (take codes tree others) s groups ∷ more) p round line end
take_carries codes tree others p round s groups more line end is h =
    then_both (TakeEnds groups codes line) (λ next later. Then (TreeEnds tree p round (close codes s) next) (TakesEnd others p round s (behind groups)) later) (WorkEnds more p round) (line + 1) end (is, refl)
    (then_row (TreeEnds tree p round (close codes s) (line + 1)) (TakesEnd others p round s (behind groups)) (WorkEnds more p round) end h)

alone_ends : (tree : Tree) (p : Problem) (round : Round) (s : State) (line : ℕ) (end : End) → WorkEnds (a_tree tree s ∷ []) p round line end → TreeEnds tree p round s line end
alone_ends tree p round s line (fine x) h = subst (TreeEnds tree p round s line) (sym h.2) h.1
alone_ends tree p round s line (faulty f l) (inl h) = h
alone_ends tree p round s line (faulty f l) (inr h) = absurd (fine_not h.0 f l (sym h.2))

pub lines_carry : LinesCarry
lines_carry = record {
  leaf_fine = λ l p round s more line next end a b. then_from (LeafEnds l p round s line) (WorkEnds more p round) next end a b;
  branch_fine = branch_carries;
  take_fine = take_carries;
  mark_fine = λ p round s more line end h. then_from (MarkEnds [] line) (WorkEnds more p round) (line + 1) end (refl, refl) h;
  leaf_fault = λ l p round s more line at fault h. inl h;
  branch_fault = λ county limit takes raised p round s more line fault h. inl (inl (h, refl));
  take_fault = λ codes tree others p round s groups more line fault h. inl (inl (h, refl));
  mark_fault = λ p round s groups more line fault h. inl (h, refl);
  alone = alone_ends;
}
