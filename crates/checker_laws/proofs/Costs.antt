-- There is one cost.
use Rattle.std.proofs.Common.{◌≡◌, ℕ, ◌+◌, ◌*◌, ◌≤◌, List, [], ◌∷◌, map, length, Option, Some, None, refl, sym, ap, ◌∙◌, subst, arith, inl, inr, AllPairs}
use Rattle.grouping_laws.specs.Problem.{Problem}
use Rattle.grouping_laws.specs.Grouping.{Grouping, counts, sets_of}
use Rattle.grouping_laws.specs.Tolerance.{HasTolerance}
use Rattle.grouping_laws.specs.GroupsFrom.{IsOrder, IsLesser, IsBefore, place}
use Rattle.grouping_laws.proofs.Elements.{Has, has_from_contains, contains_from_has}
use Rattle.certificate_data.specs.Round.{Round}
use Rattle.certificate_laws.specs.State.{State, close, raise, empty_state}
use Rattle.certificate_laws.specs.Groups.{AreGroupsAt, IsSetAt, IsSetWithin}
use Rattle.certificate_data.specs.Tree.{Allowance, room, weigh, Leaf, bound, Tree, leaf, branch, Takes, no_take, take, groups_of, stuck, seats}
use Rattle.certificate_laws.specs.BoundLines.{allowance, IsFair}
use Rattle.certificate_laws.specs.Proving.{limit_of, CanBranch, NamesLimit, Proves, EachProves}
use Rattle.certificate_laws.proofs.Decided.{leaves_are_decided}
use Rattle.certificate_laws.proofs.Kept.{head_before, tail_pairs}
use Rattle.checker_laws.specs.Leaves.{IsEven}
use Rattle.checker_laws.specs.Branches.{IsNextTake, behind}
use Rattle.checker_laws.specs.Verdict.{IsLargeEnough, IsLawfulTarget}
use Rattle.checker_laws.specs.Cost.{IsSetCount, Both, Where, LineLooks, AllowancesLook, BoundLooks, LeafLooks, TreeLooks, TakesLook}
use Rattle.checker_laws.specs.Laws.{CostsAreOne}

abbrev One : (ℕ → Type 0) → Type 0
One Number = (m n : ℕ) → Number m → Number n → m ≡ n

-- two sorted lists with the same elements are one
lesser_asymmetric : (xs ys : List ℕ) → IsLesser xs ys → IsLesser ys xs → ⊥
lesser_asymmetric [] ys h k = absurd h
lesser_asymmetric (x ∷ xs) [] h k = absurd h
lesser_asymmetric (x ∷ xs) (y ∷ ys) (inl h) (inl k) = omega arith
lesser_asymmetric (x ∷ xs) (y ∷ ys) (inl h) (inr k) = omega (arith, k.0)
lesser_asymmetric (x ∷ xs) (y ∷ ys) (inr h) (inl k) = omega (arith, h.0)
lesser_asymmetric (x ∷ xs) (y ∷ ys) (inr h) (inr k) = lesser_asymmetric xs ys h.1 k.1

before_asymmetric : (order g h : List ℕ) → IsBefore order g h → IsBefore order h g → ⊥
before_asymmetric order g h (inl l) (inl m) = omega arith
before_asymmetric order g h (inl l) (inr m) = omega (arith, m.0)
before_asymmetric order g h (inr l) (inl m) = omega (arith, l.0)
before_asymmetric order g h (inr l) (inr m) = lesser_asymmetric (map (place order) g) (map (place order) h) l.1 m.1

sorted_same : (order : List ℕ) (xs ys : List (List ℕ)) → AllPairs (IsBefore order) xs → AllPairs (IsBefore order) ys
    → ((x : List ℕ) → Has xs x → Has ys x) → ((x : List ℕ) → Has ys x → Has xs x) → xs ≡ ys
sorted_same order [] [] a b f g = refl
sorted_same order [] (y ∷ ys) a b f g = absurd (g y (inl refl))
sorted_same order (x ∷ xs) [] a b f g = absurd (f x (inl refl))
sorted_same order (x ∷ xs) (y ∷ ys) a b f g = joined first (sorted_same order xs ys (tail_pairs (IsBefore order) x xs a) (tail_pairs (IsBefore order) y ys b) forth back)
  where
    never : (z : List ℕ) → IsBefore order z z → ⊥
    never z h = before_asymmetric order z z h h

    first : x ≡ y
    first = go (f x (inl refl)) (g y (inl refl))
      where
        go : Has (y ∷ ys) x → Has (x ∷ xs) y → x ≡ y
        go (inl e) k = sym e
        go (inr h) (inl e) = e
        go (inr h) (inr k) = absurd (before_asymmetric order x y (head_before (IsBefore order) x xs a y k) (head_before (IsBefore order) y ys b x h))

    forth : (z : List ℕ) → Has xs z → Has ys z
    forth z h = go (f z (inr h))
      where
        go : Has (y ∷ ys) z → Has ys z
        go (inl e) = absurd (never z (subst (λ w. IsBefore order w z) (first ∙ e) (head_before (IsBefore order) x xs a z h)))
        go (inr k) = k

    back : (z : List ℕ) → Has ys z → Has xs z
    back z h = go (g z (inr h))
      where
        go : Has (x ∷ xs) z → Has xs z
        go (inl e) = absurd (never z (subst (λ w. IsBefore order w z) (sym first ∙ e) (head_before (IsBefore order) y ys b z h)))
        go (inr k) = k

    joined : x ≡ y → xs ≡ ys → x ∷ xs ≡ y ∷ ys
    joined e k = cc

so_many_one : (order : List ℕ) (Kind : List ℕ → Type 0) → One (IsSetCount order Kind)
so_many_one order Kind m n a b =
    a.number ∙ (ap length (sorted_same order a.sets b.sets a.sorted b.sorted
    (λ g h. has_from_contains b.sets g ((b.each g).1 ((a.each g).0 (contains_from_has a.sets g h))))
    (λ g h. has_from_contains a.sets g ((a.each g).1 ((b.each g).0 (contains_from_has b.sets g h))))) ∙ sym b.number)

both_one : (First Second : ℕ → Type 0) → One First → One Second → One (Both First Second)
both_one First Second a b m n h k = omega (arith, a h.0 k.0 h.2 k.2, b h.1 k.1 h.3 k.3, h.4, k.4)

where_one : (Fine : Type 0) (Number : ℕ → Type 0) → One Number → One (Where Fine Number)
where_one Fine Number a m n (inl h) (inl k) = a m n h.1 k.1
where_one Fine Number a m n (inl h) (inr k) = absurd (k.0 h.0)
where_one Fine Number a m n (inr h) (inl k) = absurd (h.0 k.0)
where_one Fine Number a m n (inr h) (inr k) = h.1 ∙ sym k.1

line_one : (line : Allowance) (p : Problem) (round : Round) (s : State) (i : ℕ) → One (LineLooks line p round s i)
line_one room p round s i m n h k = h ∙ sym k
line_one (weigh quota ws) p round s i m n h k = so_many_one round.order (IsSetWithin p round.order s i) m n h k

allowances_one : (lines : List Allowance) (p : Problem) (round : Round) (s : State) (wanted : ℕ → ℕ) (i used : ℕ) → One (AllowancesLook lines p round s wanted i used)
allowances_one [] p round s wanted i used m n h k = h ∙ sym k
allowances_one (line ∷ lines) p round s wanted i used m n h k =
    let goes = IsFair round.format p s i line × IsEven p s wanted i used line in
    let more = AllowancesLook lines p round s wanted (i + 1) (used + i * allowance p s i used line) in
    both_one (LineLooks line p round s i) (Where goes more)
    (line_one line p round s i)
    (where_one goes more (allowances_one lines p round s wanted (i + 1) (used + i * allowance p s i used line)))
    m n h k

bound_one : (lines : List Allowance) (p : Problem) (round : Round) (s : State) (target : Option Grouping) → One (BoundLooks lines p round s target)
bound_one lines p round s None m n h k = h ∙ sym k
bound_one lines p round s (Some t) m n h k = where_one (length lines ≤ round.limit) (AllowancesLook lines p round s (counts (sets_of t)) 1 0) (allowances_one lines p round s (counts (sets_of t)) 1 0) m n h k

leaf_one : (l : Leaf) (p : Problem) (round : Round) (s : State) → One (LeafLooks l p round s)
leaf_one (stuck c) p round s m n h k = h ∙ sym k
leaf_one seats p round s m n h k = h ∙ sym k
leaf_one (bound lines) p round s m n h k = bound_one lines p round s round.target m n h k

mutual
  tree_one : (tree : Tree) (p : Problem) (round : Round) (s : State) → One (TreeLooks tree p round s)
  tree_one (leaf l) p round s m n h k = leaf_one l p round s m n h k
  tree_one (branch c limit takes raised) p round s m n h k =
      let j = limit_of round limit in
      let fine = NamesLimit round.format limit × CanBranch round s c j in
      let later : List (List ℕ) → ℕ → Type 0 = λ groups. Both (TakesLook takes p round s groups) (Where ((groups_of takes ≡ groups) × EachProves takes p round s) (TreeLooks raised p round (raise c j s))) in
      let inner : ℕ → Type 0 = λ z. (groups : List (List ℕ)) × AreGroupsAt p round s c j groups × later groups z in
      where_one fine (Both (IsSetCount round.order (IsSetAt p round.order s c j)) inner)
      (both_one (IsSetCount round.order (IsSetAt p round.order s c j)) inner
      (so_many_one round.order (IsSetAt p round.order s c j))
      (λ x y a b.
      let same = leaves_are_decided.groups_at p round s c j b.0 a.0 b.1 a.1 in
      both_one (TakesLook takes p round s a.0) (Where ((groups_of takes ≡ a.0) × EachProves takes p round s) (TreeLooks raised p round (raise c j s)))
      (takes_one takes p round s a.0)
      (where_one ((groups_of takes ≡ a.0) × EachProves takes p round s) (TreeLooks raised p round (raise c j s)) (tree_one raised p round (raise c j s)))
      x y a.2 (subst (λ groups. later groups y) same b.2)))
      m n h k

  takes_one : (takes : Takes) (p : Problem) (round : Round) (s : State) (groups : List (List ℕ)) → One (TakesLook takes p round s groups)
  takes_one no_take p round s groups m n h k = h ∙ sym k
  takes_one (take codes tree others) p round s groups m n h k =
      where_one (IsNextTake groups codes) (Both (TreeLooks tree p round (close codes s)) (Where (Proves tree p round (close codes s)) (TakesLook others p round s (behind groups))))
      (both_one (TreeLooks tree p round (close codes s)) (Where (Proves tree p round (close codes s)) (TakesLook others p round s (behind groups)))
      (tree_one tree p round (close codes s))
      (where_one (Proves tree p round (close codes s)) (TakesLook others p round s (behind groups)) (takes_one others p round s (behind groups))))
      m n h k

pub costs_are_one : CostsAreOne
costs_are_one = record {
  tree = λ tree p round s m n h k. omega (arith, h.2, k.2, tree_one tree p round s h.0 k.0 h.1 k.1);
  certificate = λ p round tree m n h k.
      omega (arith, h.2, k.2, where_one (HasTolerance p round.tolerance × IsOrder p round.order × IsLargeEnough round.limit round.target × IsLawfulTarget p round.target) (TreeLooks tree p round (empty_state p)) (tree_one tree p round (empty_state p)) h.0 k.0 h.1 k.1);
}
