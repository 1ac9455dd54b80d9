-- What each line does to what is left to look through.
use Rattle.std.proofs.Common.{◌≡◌, ℕ, ◌+◌, List, [], ◌∷◌, Option, refl, sym, ap, subst, arith, inl, inr}
use Rattle.grouping_laws.specs.Problem.{Problem}
use Rattle.certificate_data.specs.Round.{Round}
use Rattle.certificate_laws.specs.State.{State, close, raise}
use Rattle.certificate_laws.specs.Groups.{AreGroupsAt, IsSetAt}
use Rattle.certificate_data.specs.Tree.{Tree, branch, Takes, no_take, take, groups_of}
use Rattle.certificate_laws.specs.Leaves.{IsValidLeaf}
use Rattle.certificate_laws.specs.Proving.{limit_of, CanBranch, NamesLimit, Proves, EachProves}
use Rattle.certificate_laws.proofs.Decided.{leaves_are_decided}
use Rattle.checker_laws.specs.Branches.{IsNextTake, behind}
use Rattle.checker_laws.specs.Cost.{IsSetCount, Both, Where, TreeLooks, TakesLook}
use Rattle.checker_laws.specs.Work.{Open, a_tree, some_takes}
use Rattle.checker_laws.specs.WorkCost.{WorkLooks, LinesCost}
use Rattle.checker_laws.proofs.Trees.{next_first}

-- where the whole is fine exactly where both halves are, what comes behind the whole comes behind the second half
where_row : (Whole First Second : Type 0) (Middle Last : ℕ → Type 0) (m n : ℕ) → (Whole → First × Second) → (First → Second → Whole) → Where First Middle m → Where Whole Last n
    → Where First (Both Middle (Where Second Last)) (m + n)
where_row Whole First Second Middle Last m n parts whole (inl a) (inl b) = inl (a.0, (m, n, a.1, inl ((parts b.0).1, b.1), refl))
where_row Whole First Second Middle Last m n parts whole (inl a) (inr b) = inl (a.0, (m, n, a.1, inr (λ s. b.0 (whole a.0 s), b.1), refl))
where_row Whole First Second Middle Last m n parts whole (inr a) (inl b) = absurd (a.0 (parts b.0).0)
where_row Whole First Second Middle Last m n parts whole (inr a) (inr b) = inr (a.0, omega (arith, a.1, b.1))

pub where_fine : (Fine : Type 0) (Number : ℕ → Type 0) (n : ℕ) → Fine → Where Fine Number n → Number n
where_fine Fine Number n f (inl h) = h.1
where_fine Fine Number n f (inr h) = absurd (h.0 f)

branch_looks : (c : ℕ) (limit : Option ℕ) (takes : Takes) (raised : Tree) (p : Problem) (round : Round) (s : State) (groups : List (List ℕ)) (more : List Open) (n : ℕ)
    → NamesLimit round.format limit → CanBranch round s c (limit_of round limit) → AreGroupsAt p round s c (limit_of round limit) groups
    → WorkLooks (a_tree (branch c limit takes raised) s ∷ more) p round n
    → Both (IsSetCount round.order (IsSetAt p round.order s c (limit_of round limit))) (WorkLooks (some_takes takes s groups ∷ a_tree raised (raise c (limit_of round limit) s) ∷ more) p round) n
branch_looks c limit takes raised p round s groups more n names can are h =
    let j = limit_of round limit in
    let fine = NamesLimit round.format limit × CanBranch round s c j in
    let looked = IsSetCount round.order (IsSetAt p round.order s c j) in
    let later : List (List ℕ) → ℕ → Type 0 = λ gs. Both (TakesLook takes p round s gs) (Where ((groups_of takes ≡ gs) × EachProves takes p round s) (TreeLooks raised p round (raise c j s))) in
    let inner : ℕ → Type 0 = λ z. (gs : List (List ℕ)) × AreGroupsAt p round s c j gs × later gs z in
    let i = where_fine fine (Both looked inner) h.0 (names, can) h.2 in
    let t = subst (λ gs. later gs i.1) (leaves_are_decided.groups_at p round s c j i.3.0 groups i.3.1 are) i.3.2 in
    let w = where_row (Proves (branch c limit takes raised) p round s) ((groups_of takes ≡ groups) × EachProves takes p round s) (Proves raised p round (raise c j s))
    (TreeLooks raised p round (raise c j s)) (WorkLooks more p round) t.1 h.1
    (λ v. ((leaves_are_decided.groups_at p round s c j (groups_of takes) groups v.2 are, v.3), v.4))
    (λ u v. (names, can, subst (AreGroupsAt p round s c j) (sym u.0) are, u.1, v))
    t.3 h.3 in
    (i.0, t.0 + (t.1 + h.1), i.2, (t.0, t.1 + h.1, t.2, w, refl), omega (arith, h.4, i.4, t.4))

next_parts : (groups : List (List ℕ)) (codes : List ℕ) (others : List (List ℕ)) → codes ∷ others ≡ groups → others ≡ behind groups
next_parts groups codes others e = ap behind e

take_looks : (codes : List ℕ) (tree : Tree) (others : Takes) (p : Problem) (round : Round) (s : State) (groups : List (List ℕ)) (more : List Open) (n : ℕ)
    → IsNextTake groups codes → WorkLooks (some_takes (take codes tree others) s groups ∷ more) p round n
    → WorkLooks (a_tree tree (close codes s) ∷ some_takes others s (behind groups) ∷ more) p round n
take_looks codes tree others p round s groups more n is h =
    let t = where_fine (IsNextTake groups codes) (Both (TreeLooks tree p round (close codes s)) (Where (Proves tree p round (close codes s)) (TakesLook others p round s (behind groups)))) h.0 is h.2 in
    let w = where_row ((codes ∷ groups_of others ≡ groups) × EachProves (take codes tree others) p round s) (Proves tree p round (close codes s)) ((groups_of others ≡ behind groups) × EachProves others p round s)
    (TakesLook others p round s (behind groups)) (WorkLooks more p round) t.1 h.1
    (λ v. (v.1.0, (next_parts groups codes (groups_of others) v.0, v.1.1)))
    (λ u v. (next_first groups codes (groups_of others) is v.0, (u, v.1)))
    t.3 h.3 in
    (t.0, t.1 + h.1, t.2, w, omega (arith, h.4, t.4))

mark_looks : (p : Problem) (round : Round) (s : State) (more : List Open) (n : ℕ) → WorkLooks (some_takes no_take s [] ∷ more) p round n → WorkLooks more p round n
mark_looks p round s more n h = subst (WorkLooks more p round) (omega (arith, h.2, h.4)) (where_fine (([] ≡ []) × EachProves no_take p round s) (WorkLooks more p round) h.1 (refl, tt) h.3)

pub lines_cost : LinesCost
lines_cost = record {
  leaf_looks = λ l p round s more n v h. (h.0, h.1, h.2, where_fine (IsValidLeaf p round s l) (WorkLooks more p round) h.1 v h.3, h.4);
  branch_looks = branch_looks;
  take_looks = take_looks;
  mark_looks = mark_looks;
}
