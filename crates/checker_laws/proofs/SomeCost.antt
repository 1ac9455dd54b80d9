-- No text is without a cost.
use Rattle.std.proofs.Common.{◌≡◌, ℕ, ◌+◌, ◌*◌, ◌≤◌, List, [], ◌∷◌, length, filter, Option, Some, None, refl, inl, inr, ⊎_elim}
use Rattle.grouping_laws.specs.Sets.{contains}
use Rattle.grouping_laws.specs.Problem.{Problem}
use Rattle.grouping_laws.specs.Grouping.{Grouping, counts, sets_of}
use Rattle.grouping_laws.specs.GroupsFrom.{IsOrder}
use Rattle.grouping_laws.specs.Tolerance.{HasTolerance}
use Rattle.certificate_data.specs.Round.{Round}
use Rattle.certificate_laws.specs.State.{State, close, raise, empty_state}
use Rattle.certificate_laws.specs.Groups.{AreGroupsAt, IsGroupAt, IsSetAt, IsSetWithin}
use Rattle.certificate_data.specs.Tree.{Allowance, room, weigh, Leaf, bound, Tree, leaf, branch, Takes, no_take, take, groups_of, stuck, seats}
use Rattle.certificate_laws.specs.BoundLines.{allowance, IsFair}
use Rattle.certificate_laws.specs.Proving.{limit_of, CanBranch, NamesLimit, Proves, EachProves}
use Rattle.certificate_lines.specs.declared.fault.TextFault.{TextFault}
use Rattle.certificate_data.specs.TreeValue.{Certificate}
use Rattle.certificate_text.specs.Spelling.{IsSpelling}
use Rattle.checker_laws.specs.Leaves.{IsEven}
use Rattle.checker_laws.specs.Branches.{IsNextTake, behind}
use Rattle.checker_laws.specs.Lines.{certificate_lines}
use Rattle.checker_laws.specs.Verdict.{IsLargeEnough, IsLawfulTarget}
use Rattle.checker_laws.specs.Cost.{IsSetCount, Both, Where, LineLooks, AllowancesLook, BoundLooks, LeafLooks, TreeLooks, TakesLook, CertificateCosts}
use Rattle.checker_laws.specs.TextVerdict.{HasTextFault}
use Rattle.checker_laws.specs.TextCost.{line_feeds, TextCosts}
use Rattle.checker_laws.proofs.Listings.{NotNone, here, then_some, either_way, listing}
use Rattle.checker_laws.proofs.Spelling.{either}

-- some number of a kind
abbrev Number : (ℕ → Type 0) → Type 0
Number Kind = (n : ℕ) × Kind n

so_many : (order : List ℕ) (Kind : List ℕ → Type 0) → ((g : List ℕ) → Kind g → filter (contains g) order ≡ g) → NotNone (Number (IsSetCount order Kind))
so_many order Kind ordered = then_some (listing order Kind ordered) (λ l. here (length l.sets, record { sets = l.sets; each = l.each; sorted = l.sorted; number = refl }))

pub groups_there : (p : Problem) (round : Round) (s : State) (c j : ℕ) → NotNone ((groups : List (List ℕ)) × AreGroupsAt p round s c j groups)
groups_there p round s c j = then_some (listing round.order (IsGroupAt p round s c j) (λ g h. h.in_order)) (λ l. here (l.sets, record { each = l.each; sorted = l.sorted }))

both_numbers : (First Second : ℕ → Type 0) → NotNone (Number First) → NotNone (Number Second) → NotNone (Number (Both First Second))
both_numbers First Second a b = then_some a (λ m. then_some b (λ n. here (m.0 + n.0, (m.0, n.0, m.1, n.1, refl))))

where_number : (Fine : Type 0) (Kind : ℕ → Type 0) → (Fine → NotNone (Number Kind)) → NotNone (Number (Where Fine Kind))
where_number Fine Kind h = then_some (either_way Fine) (λ o. ⊎_elim (λ f. then_some (h f) (λ n. here (n.0, inl (f, n.1)))) (λ f. here (0, inr (f, refl))) o)

line_looks : (line : Allowance) (p : Problem) (round : Round) (s : State) (i : ℕ) → NotNone (Number (LineLooks line p round s i))
line_looks room p round s i = here (0, refl)
line_looks (weigh quota ws) p round s i = so_many round.order (IsSetWithin p round.order s i) (λ g h. h.in_order)

lines_look : (lines : List Allowance) (p : Problem) (round : Round) (s : State) (wanted : ℕ → ℕ) (i used : ℕ) → NotNone (Number (AllowancesLook lines p round s wanted i used))
lines_look [] p round s wanted i used = here (0, refl)
lines_look (line ∷ lines) p round s wanted i used =
    both_numbers (LineLooks line p round s i) (Where (IsFair round.format p s i line × IsEven p s wanted i used line) (AllowancesLook lines p round s wanted (i + 1) (used + i * allowance p s i used line))) (line_looks line p round s i)
    (where_number (IsFair round.format p s i line × IsEven p s wanted i used line) (AllowancesLook lines p round s wanted (i + 1) (used + i * allowance p s i used line))
    (λ f. lines_look lines p round s wanted (i + 1) (used + i * allowance p s i used line)))

bound_looks : (lines : List Allowance) (p : Problem) (round : Round) (s : State) (target : Option Grouping) → NotNone (Number (BoundLooks lines p round s target))
bound_looks lines p round s None = here (0, refl)
bound_looks lines p round s (Some t) = where_number (length lines ≤ round.limit) (AllowancesLook lines p round s (counts (sets_of t)) 1 0) (λ f. lines_look lines p round s (counts (sets_of t)) 1 0)

leaf_looks : (l : Leaf) (p : Problem) (round : Round) (s : State) → NotNone (Number (LeafLooks l p round s))
leaf_looks (stuck c) p round s = here (0, refl)
leaf_looks seats p round s = here (0, refl)
leaf_looks (bound lines) p round s = bound_looks lines p round s round.target

mutual
  tree_looks : (tree : Tree) (p : Problem) (round : Round) (s : State) → NotNone (Number (TreeLooks tree p round s))
  tree_looks (leaf l) p round s = leaf_looks l p round s
  tree_looks (branch c limit takes raised) p round s =
      let j = limit_of round limit in
      let later : List (List ℕ) → ℕ → Type 0 = λ groups. Both (TakesLook takes p round s groups) (Where ((groups_of takes ≡ groups) × EachProves takes p round s) (TreeLooks raised p round (raise c j s))) in
      let inner : ℕ → Type 0 = λ m. (groups : List (List ℕ)) × AreGroupsAt p round s c j groups × later groups m in
      where_number (NamesLimit round.format limit × CanBranch round s c j) (Both (IsSetCount round.order (IsSetAt p round.order s c j)) inner)
      (λ f. both_numbers (IsSetCount round.order (IsSetAt p round.order s c j)) inner (so_many round.order (IsSetAt p round.order s c j) (λ g h. h.in_order))
      (then_some (groups_there p round s c j)
      (λ gs. then_some
      (both_numbers (TakesLook takes p round s gs.0) (Where ((groups_of takes ≡ gs.0) × EachProves takes p round s) (TreeLooks raised p round (raise c j s))) (takes_look takes p round s gs.0)
      (where_number ((groups_of takes ≡ gs.0) × EachProves takes p round s) (TreeLooks raised p round (raise c j s)) (λ e. tree_looks raised p round (raise c j s))))
      (λ n. here (n.0, (gs.0, gs.1, n.1))))))

  takes_look : (takes : Takes) (p : Problem) (round : Round) (s : State) (groups : List (List ℕ)) → NotNone (Number (TakesLook takes p round s groups))
  takes_look no_take p round s groups = here (0, refl)
  takes_look (take codes tree others) p round s groups =
      let more = Where (Proves tree p round (close codes s)) (TakesLook others p round s (behind groups)) in
      where_number (IsNextTake groups codes) (Both (TreeLooks tree p round (close codes s)) more)
      (λ f. both_numbers (TreeLooks tree p round (close codes s)) more (tree_looks tree p round (close codes s))
      (where_number (Proves tree p round (close codes s)) (TakesLook others p round s (behind groups)) (λ e. takes_look others p round s (behind groups))))

certificate_costs : (p : Problem) (round : Round) (tree : Tree) → NotNone (Number (CertificateCosts p round tree))
certificate_costs p round tree =
    then_some
    (where_number (HasTolerance p round.tolerance × IsOrder p round.order × IsLargeEnough round.limit round.target × IsLawfulTarget p round.target) (TreeLooks tree p round (empty_state p)) (λ f. tree_looks tree p round (empty_state p)))
    (λ n. here (3 * (certificate_lines round tree + 1 + n.0), (n.0, n.1, refl)))

pub some_cost : (p : Problem) (text : List ℕ) → NotNone (Number (TextCosts p text))
some_cost p text = ⊎_elim spelled faulty (either text)
  where
    spelled : (c : Certificate) × IsSpelling text c → NotNone (Number (TextCosts p text))
    spelled s = then_some (certificate_costs p s.0.round s.0.tree) (λ n. here (n.0, inl (s.0, s.1, n.1)))

    faulty : (fault : TextFault) × HasTextFault text fault → NotNone (Number (TextCosts p text))
    faulty f = here (3 * (1 + line_feeds text), inr (f.0, f.1, refl))
