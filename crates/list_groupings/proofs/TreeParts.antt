-- Trees, branches and takes of the code's types, taken apart; and what stands at a state behind them.
use Rattle.std.proofs.lemmas.List.{drop_more}
use Rattle.std.proofs.Common.{◌≡◌, ℕ, ◌+◌, ◌<◌, List, [], ◌∷◌, length, drop, get_or, Option, refl, sym, ap, ◌∙◌, subst, arith, inl, inr, Ok, Err}
use Rattle.grouping_laws.specs.Problem.{Problem}
use Rattle.grouping_laws.proofs.Elements.{has_from_contains, contains_from_has}
use Rattle.certificate_data.specs.declared.tree.Tree.{Tree as TreeHeld, out-Tree, roll-out-Tree}
use Rattle.certificate_data.specs.declared.tree.Branch.{Branch, out-Branch, roll-out-Branch}
use Rattle.certificate_data.specs.declared.tree.Take.{Take, out-Take, roll-out-Take, roll-Take}
use Rattle.certificate_data.specs.TreeValue.{leaf_of, tree_of, branch_onto, take_onto, list_of_takes}
use Rattle.certificate_data.proofs.TreeLists.{list_onto, made_tree, made_takes}
use Rattle.certificate_data.specs.Round.{Round}
use Rattle.certificate_laws.specs.State.{State, close, raise}
use Rattle.certificate_data.specs.Tree.{Tree, leaf, branch, Takes, no_take, take, groups_of}
use Rattle.certificate_laws.specs.Proving.{limit_of}
use Rattle.certificate_laws.proofs.Branches.{branch_keeps_state}
use Rattle.checker_laws.specs.Lines.{tree_lines, takes_lines}
use Rattle.list_laws.specs.Completeness.{IsComplete, EachIsComplete}
use Rattle.list_laws.specs.Ends.{ends, ends_in}
use Rattle.county_codes.specs.declared.group.Grouping.{Grouping as GroupingHeld}
use Rattle.list_groupings.specs.declared.walk.Found.{Found}
use Rattle.list_groupings.specs.Gaps.{IsFirstGap, IsFirstGapIn}
use Rattle.list_groupings.specs.Walking.{HasAdded, HasWalked, IsProofAt, AreBranchTakes}
use Rattle.list_groupings.specs.declared.walk.WalkStop.{WalkStop}
use Rattle.list_groupings.proofs.WalkLemmas.{Going, going_on, going_walked, going_stops, added_none}
use Rattle.list_groupings.proofs.Journeys.{GoesOnTakes, GoesOnTree}

pub tree_view : (t : TreeHeld) → tree_of t ≡ list_onto (out-Tree t).branches.items (leaf (leaf_of (out-Tree t).leaf))
tree_view t = ap tree_of (sym (roll-out-Tree t)) ∙ made_tree (out-Tree t).branches (out-Tree t).leaf

pub branch_view : (b : Branch) (raised : Tree) → branch_onto b raised ≡ branch (out-Branch b).county (out-Branch b).limit (list_of_takes (out-Branch b).takes.items) raised
branch_view b raised = ap (λ z. branch_onto z raised) (sym (roll-out-Branch b)) ∙ made_takes (out-Branch b).county (out-Branch b).limit (out-Branch b).takes raised

made_onto : (codes : List ℕ) (tree : TreeHeld) (others : Takes) → take_onto (roll-Take (record { codes = codes; tree = tree })) others ≡ take codes (tree_of tree) others
unfolding roll-Take denote.Hole.Carrier.roll
made_onto codes tree others = refl

pub take_view : (t : Take) (others : Takes) → take_onto t others ≡ take (out-Take t).codes (tree_of (out-Take t).tree) others
take_view t others = ap (λ z. take_onto z others) (sym (roll-out-Take t)) ∙ made_onto (out-Take t).codes (out-Take t).tree others

module _ (p : Problem) (round : Round) (s : State) where
  -- the next take and those behind it
  next_take : (codes : List ℕ) (tree : Tree) (others : Takes) → AreBranchTakes p round s (take codes tree others) → IsProofAt p round (close codes s) tree
  next_take codes tree others h =
      let f = h.fit codes (contains_from_has (codes ∷ groups_of others) codes (inl refl)) in
      record { state = (branch_keeps_state).closed_state p round s codes h.state f.0 f.1; proves = h.proves.0; readable = h.readable.0 }

  later_takes : (codes : List ℕ) (tree : Tree) (others : Takes) → AreBranchTakes p round s (take codes tree others) → AreBranchTakes p round s others
  later_takes codes tree others h = record {
    state = h.state;
    fit = λ g c. h.fit g (contains_from_has (codes ∷ groups_of others) g (inr (has_from_contains (groups_of others) g c)));
    proves = h.proves.1;
    readable = h.readable.1;
  }

  takes_going : (whole : Takes) (codes : List ℕ) (tree : Tree) (others : Takes) (old now new : Found)
      → Going p (EachIsComplete whole p round s) (EachIsComplete (take codes tree others) p round s) (IsFirstGapIn whole p round s old.line) (IsFirstGapIn (take codes tree others) p round s now.line) (ends_in whole p round s) (ends_in (take codes tree others) p round s) (takes_lines whole) (takes_lines (take codes tree others)) old now
      → IsComplete tree p round (close codes s) → new.line ≡ now.line + 1 + tree_lines tree → HasAdded p (ends tree p round (close codes s)) now.list.items new.list.items
      → Going p (EachIsComplete whole p round s) (EachIsComplete others p round s) (IsFirstGapIn whole p round s old.line) (IsFirstGapIn others p round s new.line) (ends_in whole p round s) (ends_in others p round s) (takes_lines whole) (takes_lines others) old new
  takes_going whole codes tree others old now new g done line added =
      going_on p (EachIsComplete whole p round s) (EachIsComplete (take codes tree others) p round s) (IsComplete tree p round (close codes s)) (EachIsComplete others p round s)
      (IsFirstGapIn whole p round s old.line) (IsFirstGapIn (take codes tree others) p round s now.line) (IsFirstGapIn others p round s new.line)
      (ends_in whole p round s) (ends_in (take codes tree others) p round s) (ends tree p round (close codes s)) (ends_in others p round s)
      (takes_lines whole) (takes_lines (take codes tree others)) (tree_lines tree) (takes_lines others) old now new g
      (λ a b. (a, b)) (λ gap at h. inr (done, subst (λ z. IsFirstGapIn others p round s z gap at) line h)) refl refl done line added

  -- the takes of a branch, and what is raised past it
  takes_of_branch : (county : ℕ) (limit : Option ℕ) (takes : Takes) (raised : Tree) → IsProofAt p round s (branch county limit takes raised) → AreBranchTakes p round s takes
  takes_of_branch county limit takes raised h = record {
    state = h.state;
    fit = λ g c. let q = (h.proves.2.each g).0 c in (q.fits, omega (arith, q.small, h.proves.1.small));
    proves = h.proves.3;
    readable = h.readable.1;
  }

  raised_tree : (county : ℕ) (limit : Option ℕ) (takes : Takes) (raised : Tree) → IsProofAt p round s (branch county limit takes raised) → IsProofAt p round (raise county (limit_of round limit) s) raised
  raised_tree county limit takes raised h = record { state = (branch_keeps_state).raised_state p round s county (limit_of round limit) h.state h.proves.1; proves = h.proves.4; readable = h.readable.2 }

  tree_going : (s0 : State) (whole : Tree) (county : ℕ) (limit : Option ℕ) (takes : Takes) (raised : Tree) (old now new : Found)
      → Going p (IsComplete whole p round s0) (IsComplete (branch county limit takes raised) p round s) (IsFirstGap whole p round s0 old.line) (IsFirstGap (branch county limit takes raised) p round s now.line) (ends whole p round s0) (ends (branch county limit takes raised) p round s) (tree_lines whole) (tree_lines (branch county limit takes raised)) old now
      → EachIsComplete takes p round s → new.line ≡ now.line + 1 + takes_lines takes → HasAdded p (ends_in takes p round s) now.list.items new.list.items
      → Going p (IsComplete whole p round s0) (IsComplete raised p round (raise county (limit_of round limit) s)) (IsFirstGap whole p round s0 old.line) (IsFirstGap raised p round (raise county (limit_of round limit) s) new.line) (ends whole p round s0) (ends raised p round (raise county (limit_of round limit) s)) (tree_lines whole) (tree_lines raised) old new
  tree_going s0 whole county limit takes raised old now new g done line added =
      going_on p (IsComplete whole p round s0) (IsComplete (branch county limit takes raised) p round s) (EachIsComplete takes p round s) (IsComplete raised p round (raise county (limit_of round limit) s))
      (IsFirstGap whole p round s0 old.line) (IsFirstGap (branch county limit takes raised) p round s now.line) (IsFirstGap raised p round (raise county (limit_of round limit) s) new.line)
      (ends whole p round s0) (ends (branch county limit takes raised) p round s) (ends_in takes p round s) (ends raised p round (raise county (limit_of round limit) s))
      (tree_lines whole) (tree_lines (branch county limit takes raised)) (takes_lines takes) (tree_lines raised) old now new g
      (λ a b. (a, b)) (λ gap at h. inr (done, subst (λ z. IsFirstGap raised p round (raise county (limit_of round limit) s) z gap at) line h)) refl refl done line added

  -- what stops in the tree of a take, or in the takes of a branch
  takes_stop : (whole : Takes) (codes : List ℕ) (tree : Tree) (others : Takes) (old now mid new other : Found) (found : WalkStop) → mid.line ≡ now.line + 1
      → GoesOnTakes p round s whole (take codes tree others) old now
      → HasWalked p (IsComplete tree p round (close codes s)) (IsFirstGap tree p round (close codes s) mid.line) (ends tree p round (close codes s)) (tree_lines tree) mid (Err found) new
      → HasWalked p (EachIsComplete whole p round s) (IsFirstGapIn whole p round s old.line) (ends_in whole p round s) (takes_lines whole) old (Err found) other
  takes_stop whole codes tree others old now mid new other found line g h =
      going_stops p (EachIsComplete whole p round s) (EachIsComplete (take codes tree others) p round s) (IsComplete tree p round (close codes s))
      (IsFirstGapIn whole p round s old.line) (IsFirstGapIn (take codes tree others) p round s now.line) (IsFirstGap tree p round (close codes s) mid.line)
      (ends_in whole p round s) (ends_in (take codes tree others) p round s) (ends tree p round (close codes s)) (takes_lines whole) (takes_lines (take codes tree others)) (tree_lines tree) old now mid new other found g
      (λ gap at k. inl (subst (λ z. IsFirstGap tree p round (close codes s) z gap at) line k)) h

  pub takes_end : (whole : Takes) (old now new : Found) → new.line ≡ now.line + 1 → new.list.items ≡ now.list.items → GoesOnTakes p round s whole no_take old now
      → HasWalked p (EachIsComplete whole p round s) (IsFirstGapIn whole p round s old.line) (ends_in whole p round s) (takes_lines whole) old (Ok tt) new
  takes_end whole old now new line same g =
      going_walked p (EachIsComplete whole p round s) (EachIsComplete no_take p round s) (IsFirstGapIn whole p round s old.line) (IsFirstGapIn no_take p round s now.line)
      (ends_in whole p round s) (ends_in no_take p round s) (takes_lines whole) (takes_lines no_take) old now new (Ok tt) g
      (tt, line, subst (λ (z : List GroupingHeld). HasAdded p [] now.list.items z) (sym same) (added_none p now.list.items))

  tree_stop : (s0 : State) (whole : Tree) (county : ℕ) (limit : Option ℕ) (takes : Takes) (raised : Tree) (old now mid new other : Found) (found : WalkStop) → mid.line ≡ now.line + 1
      → GoesOnTree p round s0 s whole (branch county limit takes raised) old now
      → HasWalked p (EachIsComplete takes p round s) (IsFirstGapIn takes p round s mid.line) (ends_in takes p round s) (takes_lines takes) mid (Err found) new
      → HasWalked p (IsComplete whole p round s0) (IsFirstGap whole p round s0 old.line) (ends whole p round s0) (tree_lines whole) old (Err found) other
  tree_stop s0 whole county limit takes raised old now mid new other found line g h =
      going_stops p (IsComplete whole p round s0) (IsComplete (branch county limit takes raised) p round s) (EachIsComplete takes p round s)
      (IsFirstGap whole p round s0 old.line) (IsFirstGap (branch county limit takes raised) p round s now.line) (IsFirstGapIn takes p round s mid.line)
      (ends whole p round s0) (ends (branch county limit takes raised) p round s) (ends_in takes p round s) (tree_lines whole) (tree_lines (branch county limit takes raised)) (takes_lines takes) old now mid new other found g
      (λ gap at k. inl (subst (λ z. IsFirstGapIn takes p round s z gap at) line k)) h

-- what is left of takes, and of the branches of a tree, by the next one
pub left_takes : (xs : List Take) (i : ℕ) (x : Take) → x ≡ get_or xs i x → i < length xs → list_of_takes (drop i xs) ≡ take (out-Take x).codes (tree_of (out-Take x).tree) (list_of_takes (drop (i + 1) xs))
left_takes xs i x is inside = ap list_of_takes (drop_more xs i x inside ∙ ap (λ z. z ∷ drop (i + 1) xs) (sym is)) ∙ take_view x (list_of_takes (drop (i + 1) xs))

pub left_tree : (xs : List Branch) (i : ℕ) (x : Branch) (last : Tree) → x ≡ get_or xs i x → i < length xs
    → list_onto (drop i xs) last ≡ branch (out-Branch x).county (out-Branch x).limit (list_of_takes (out-Branch x).takes.items) (list_onto (drop (i + 1) xs) last)
left_tree xs i x last is inside = ap (λ (l : List Branch). list_onto l last) (drop_more xs i x inside ∙ ap (λ z. z ∷ drop (i + 1) xs) (sym is)) ∙ branch_view x (list_onto (drop (i + 1) xs) last)

-- the take at a place of takes is next
module _ (p : Problem) (round : Round) (s : State) (xs : List Take) (i : ℕ) (x : Take) (is : x ≡ get_or xs i x) (inside : i < length xs) where
  abbrev codes : List ℕ
  codes = (out-Take x).codes

  abbrev tree : Tree
  tree = tree_of (out-Take x).tree

  abbrev others : Takes
  others = list_of_takes (drop (i + 1) xs)

  left : AreBranchTakes p round s (list_of_takes (drop i xs)) → AreBranchTakes p round s (take codes tree others)
  left = subst (AreBranchTakes p round s) (left_takes xs i x is inside)

  far : (old now : Found) → GoesOnTakes p round s (list_of_takes xs) (list_of_takes (drop i xs)) old now → GoesOnTakes p round s (list_of_takes xs) (take codes tree others) old now
  far old now = subst (λ z. GoesOnTakes p round s (list_of_takes xs) z old now) (left_takes xs i x is inside)

  pub take_at : AreBranchTakes p round s (list_of_takes (drop i xs)) → IsProofAt p round (close codes s) tree
  take_at h = next_take p round s codes tree others (left h)

  pub takes_behind : AreBranchTakes p round s (list_of_takes (drop i xs)) → AreBranchTakes p round s others
  takes_behind h = later_takes p round s codes tree others (left h)

  pub take_stops : (old now mid new other : Found) (found : WalkStop) → mid.line ≡ now.line + 1 → GoesOnTakes p round s (list_of_takes xs) (list_of_takes (drop i xs)) old now
      → HasWalked p (IsComplete tree p round (close codes s)) (IsFirstGap tree p round (close codes s) mid.line) (ends tree p round (close codes s)) (tree_lines tree) mid (Err found) new
      → HasWalked p (EachIsComplete (list_of_takes xs) p round s) (IsFirstGapIn (list_of_takes xs) p round s old.line) (ends_in (list_of_takes xs) p round s) (takes_lines (list_of_takes xs)) old (Err found) other
  take_stops old now mid new other found line g = takes_stop p round s (list_of_takes xs) codes tree others old now mid new other found line (far old now g)

  pub take_goes : (old now new : Found) → GoesOnTakes p round s (list_of_takes xs) (list_of_takes (drop i xs)) old now
      → IsComplete tree p round (close codes s) → new.line ≡ now.line + 1 + tree_lines tree → HasAdded p (ends tree p round (close codes s)) now.list.items new.list.items
      → GoesOnTakes p round s (list_of_takes xs) others old new
  take_goes old now new g = takes_going p round s (list_of_takes xs) codes tree others old now new (far old now g)

-- the branch at a place of branches is next, with these takes
module _ (p : Problem) (round : Round) (s0 s : State) (whole : Tree) (xs : List Branch) (i : ℕ) (x : Branch) (last : Tree) (is : x ≡ get_or xs i x) (inside : i < length xs) (takes : List Take) (same : takes ≡ (out-Branch x).takes.items) where
  abbrev county : ℕ
  county = (out-Branch x).county

  abbrev limit : Option ℕ
  limit = (out-Branch x).limit

  abbrev raised : Tree
  raised = list_onto (drop (i + 1) xs) last

  pub branch_next : list_onto (drop i xs) last ≡ branch county limit (list_of_takes takes) raised
  branch_next = left_tree xs i x last is inside ∙ ap (λ (z : List Take). branch county limit (list_of_takes z) raised) (sym same)

  far_in : (old now : Found) → GoesOnTree p round s0 s whole (list_onto (drop i xs) last) old now → GoesOnTree p round s0 s whole (branch county limit (list_of_takes takes) raised) old now
  far_in old now = subst (λ z. GoesOnTree p round s0 s whole z old now) branch_next

  pub takes_at : IsProofAt p round s (list_onto (drop i xs) last) → AreBranchTakes p round s (list_of_takes takes)
  takes_at h = takes_of_branch p round s county limit (list_of_takes takes) raised (subst (IsProofAt p round s) branch_next h)

  pub raised_at : IsProofAt p round s (list_onto (drop i xs) last) → IsProofAt p round (raise county (limit_of round limit) s) raised
  raised_at h = raised_tree p round s county limit (list_of_takes takes) raised (subst (IsProofAt p round s) branch_next h)

  pub branch_stops : (old now mid new other : Found) (found : WalkStop) → mid.line ≡ now.line + 1 → GoesOnTree p round s0 s whole (list_onto (drop i xs) last) old now
      → HasWalked p (EachIsComplete (list_of_takes takes) p round s) (IsFirstGapIn (list_of_takes takes) p round s mid.line) (ends_in (list_of_takes takes) p round s) (takes_lines (list_of_takes takes)) mid (Err found) new
      → HasWalked p (IsComplete whole p round s0) (IsFirstGap whole p round s0 old.line) (ends whole p round s0) (tree_lines whole) old (Err found) other
  branch_stops old now mid new other found line g = tree_stop p round s s0 whole county limit (list_of_takes takes) raised old now mid new other found line (far_in old now g)

  pub branch_goes : (old now new : Found) → GoesOnTree p round s0 s whole (list_onto (drop i xs) last) old now
      → EachIsComplete (list_of_takes takes) p round s → new.line ≡ now.line + 1 + takes_lines (list_of_takes takes) → HasAdded p (ends_in (list_of_takes takes) p round s) now.list.items new.list.items
      → GoesOnTree p round s0 (raise county (limit_of round limit) s) whole raised old new
  branch_goes old now new g = tree_going p round s s0 whole county limit (list_of_takes takes) raised old now new (far_in old now g)
