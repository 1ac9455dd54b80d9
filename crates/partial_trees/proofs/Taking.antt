-- What is left of a partial tree, and of the takes of a branch, while they are judged.
use Rattle.std.proofs.Common.{◌≡◌, ◌≢◌, ℕ, ◌+◌, ◌*◌, ◌<◌, ◌≤◌, Bool, zero, suc, List, [], ◌∷◌, ◌++◌, length, get_or, drop, map, Option, refl, sym, ap, ◌∙◌, subst, arith, inl, inr, All}
use Rattle.std.proofs.lemmas.Bool.{false≢true}
use Rattle.std.proofs.lemmas.List.{append_assoc, append-nil, map-append, drop_all}
use Rattle.std.proofs.lemmas.List.Elements.{All-append}
use Rattle.grouping_laws.specs.Problem.{Problem}
use Rattle.certificate_data.specs.Round.{Round}
use Rattle.certificate_data.specs.Tree.{Tree}
use Rattle.certificate_laws.specs.State.{State, close, raise}
use Rattle.certificate_laws.specs.Groups.{AreGroupsAt, IsSetAt}
use Rattle.certificate_laws.specs.Proving.{NamesLimit, CanBranch, limit_of}
use Rattle.certificate_laws.proofs.Decided.{leaves_are_decided}
use Rattle.certificate_lines.specs.declared.item.Opening.TheVariants.{Branch}
use Rattle.certificate_lines.specs.declared.item.Item.TheVariants.{Opens}
use Rattle.certificate_text.specs.TreeItems.{FitsInTree}
use Rattle.checker_laws.specs.Branches.{IsNextTake, IsBranchFault, IsTakeFault}
use Rattle.grouping_laws.proofs.Elements.{contains_from_has}
use Rattle.state_judge.specs.CheckFaults.{NamesFault}
use Rattle.state_judge.specs.declared.fault.CheckFault.{CheckFault}
use Rattle.state_judge.specs.LineStops.{StopsAt}
use Rattle.state_judge.specs.declared.fault.LineStop.{LineStop}
use Rattle.state_judge.specs.declared.fault.LineStop.TheVariants.{Fault, Unspelled, StepLimit, Memory as LineMemory}
use Rattle.checker_laws.specs.Cost.{IsSetCount, Both, Where}
use Rattle.state_groups.specs.declared.state.State.{State as StateHeld}
use Rattle.state_groups.specs.PlacedValues.{state_at, codes_of_set, codes_of_sets, IsPlaced}
use Rattle.board_laws.specs.PartialTrees.{PartialTree, open_leaf, whole, begun, PartialTakes, no_begun, take_begun, begun_groups, ProvesPart, EachProvesPart}
use Rattle.board_laws.specs.PartCost.{PartLooks, BegunLook, part_lines, begun_lines}
use Rattle.partial_trees.specs.declared.stop.PartStop.{PartStop}
use Rattle.partial_trees.specs.declared.stop.PartStop.TheVariants.{NotAProof, Budget, Memory}
use Rattle.partial_trees.specs.declared.tree.PartialTree.{PartialTree as Declared, out-PartialTree}
use Rattle.partial_trees.specs.declared.tree.PartialBranch.{PartialBranch, out-PartialBranch}
use Rattle.partial_trees.specs.declared.tree.PartialTake.{PartialTake, out-PartialTake}
use Rattle.partial_trees.specs.PartialValue.{rest_of, partial_of, list_of_begun, list_onto}
use Rattle.partial_trees.specs.OpenStates.{open_states, states_in, AreSets}
use Rattle.partial_trees.specs.Refusals.{part_stop, IsPartProof, IsPartRefusal, AreTakeProofs, IsTakesRefusal}
use Rattle.partial_trees.specs.Judged.{Adds, IsTakenPart, AreTakenParts}
use Rattle.partial_trees.proofs.PartialLists.{tree_made, left_branches, left_takes}

-- a number that is told where something is fine
where_fine : (Fine : Type 0) (Number : ℕ → Type 0) (n : ℕ) → Where Fine Number n → Fine → Number n
where_fine Fine Number n (inl h) fine = h.1
where_fine Fine Number n (inr h) fine = absurd (h.0 fine)

module _ {C : Type 0} (order : List ℕ) (test : C → ℕ → Bool) where
  pub adds_none : (states : List (StateHeld C)) → Adds order test states states []
  adds_none states = record { more = []; is = sym (append-nil states); placed = all_none; stand = refl }
    where
      all_none : All (IsPlaced (length order) test) []
      all_none = λ k d h. absurd (omega (arith, h))

  pub adds_both : (a b c : List (StateHeld C)) (xs ys : List State) → Adds order test a b xs → Adds order test b c ys → Adds order test a c (xs ++ ys)
  adds_both a b c xs ys f g = record {
    more = f.more ++ g.more;
    is = g.is ∙ ap (λ (z : List (StateHeld C)). z ++ g.more) f.is ∙ append_assoc a f.more g.more;
    placed = All-append (IsPlaced (length order) test) f.more g.more f.placed g.placed;
    stand = map-append (state_at order test) f.more g.more ∙ ap (λ z. z ++ map (state_at order test) g.more) f.stand ∙ ap (λ z. xs ++ z) g.stand;
  }

  pub adds_one : (a b : List (StateHeld C)) (state : StateHeld C) (s : State) → b ≡ a ++ state ∷ [] → IsPlaced (length order) test state → state_at order test state ≡ s → Adds order test a b (s ∷ [])
  adds_one a b state s e placed is = record {
    more = state ∷ [];
    is = e;
    placed = all_one;
    stand = ap (λ z. z ∷ []) is;
  }
    where
      all_one : All (IsPlaced (length order) test) (state ∷ [])
      all_one zero d h = placed
      all_one (suc k) d h = absurd (omega (arith, h))

-- some of all states were added, and the rest are to come
pub record AddsBefore {C : Type 0} (order : List ℕ) (test : C → ℕ → Bool) (old now : List (StateHeld C)) (all rest : List State) : Type 0 where
  pub states : List State
  pub adds : Adds order test old now states
  pub is : all ≡ states ++ rest

module _ {C : Type 0} {order : List ℕ} {test : C → ℕ → Bool} where
  before_all : (states : List (StateHeld C)) (all : List State) → AddsBefore order test states states all all
  before_all states all = record { states = []; adds = adds_none order test states; is = refl }

  before_rest : {old now : List (StateHeld C)} {all rest : List State} (later : List (StateHeld C)) (xs : List State) → AddsBefore order test old now all (xs ++ rest) → Adds order test now later xs → AddsBefore order test old later all rest
  before_rest {old = old} {now = now} {rest = rest} later xs at adds = record {
    states = at.states ++ xs;
    adds = adds_both order test old now later at.states xs at.adds adds;
    is = at.is ∙ sym (append_assoc at.states xs rest);
  }

  before_none : {old now : List (StateHeld C)} {all : List State} → AddsBefore order test old now all [] → Adds order test old now all
  before_none {old = old} {now = now} at = subst (Adds order test old now) (sym (at.is ∙ append-nil at.states)) at.adds

-- the sets that are looked through in the tree of a take, and behind it
abbrev TakeLooks : Problem → Round → State → List ℕ → PartialTree → PartialTakes → List (List ℕ) → ℕ → Type 0
TakeLooks p round s codes tree others left = Both (PartLooks tree p round (close codes s)) (Where (ProvesPart tree p round (close codes s)) (BegunLook others p round s left))

-- the takes from one on, and the groups that have no take yet, beside all
pub record TakesLeft {C : Type 0} (test : C → ℕ → Bool) (p : Problem) (round : Round) (s : State) (groups : List (List ℕ)) (takes : PartialTakes) (old : List (StateHeld C)) (left : List (List ℕ)) (rest : PartialTakes) (now : List (StateHeld C)) : Type 0 where
  pub gives : AreTakeProofs p round s left rest → AreTakeProofs p round s groups takes
  pub asks : AreTakeProofs p round s groups takes → AreTakeProofs p round s left rest
  pub looks : (n : ℕ) → BegunLook takes p round s groups n → (m : ℕ) × BegunLook rest p round s left m × (m ≤ n)
  pub lines : begun_lines rest ≤ begun_lines takes
  pub adds : AddsBefore round.order test old now (states_in takes round s) (states_in rest round s)

pub no_takes_yet : {C : Type 0} (test : C → ℕ → Bool) (p : Problem) (round : Round) (s : State) (groups : List (List ℕ)) (takes : PartialTakes) (old : List (StateHeld C)) → TakesLeft test p round s groups takes old groups takes old
no_takes_yet test p round s groups takes old = record {
  gives = λ h. h;
  asks = λ h. h;
  looks = λ n h. (n, h, omega arith);
  lines = omega arith;
  adds = before_all old (states_in takes round s);
}

-- the first of the groups that have no take yet, where a take of these codes is the next one
pub next_codes : {C : Type 0} (order : List ℕ) (test : C → ℕ → Bool) (left : List C) (group : C) (others : List C) (codes : List ℕ) → left ≡ group ∷ others → IsNextTake (codes_of_sets order test left) codes → codes_of_set order test group ≡ codes
next_codes {C = C} order test left group others codes e next = subst (λ (z : List C). IsNextTake (codes_of_sets order test z) codes) e next

module _ {C : Type 0} {test : C → ℕ → Bool} {p : Problem} {round : Round} {s : State} {groups : List (List ℕ)} {takes : PartialTakes} {old : List (StateHeld C)} {now : List (StateHeld C)} where
  -- the take that is read
  pub at_take : {left : List (List ℕ)} (list : List PartialTake) (i : ℕ) (t : PartialTake) → t ≡ get_or list i t → i < length list → TakesLeft test p round s groups takes old left (list_of_begun (drop i list)) now
      → TakesLeft test p round s groups takes old left (take_begun (out-PartialTake t).codes (partial_of (out-PartialTake t).tree) (list_of_begun (drop (i + 1) list))) now
  at_take {left = left} list i t is lt at = subst (λ z. TakesLeft test p round s groups takes old left z now) (left_takes list i t is lt) at

  -- and the group that it is of
  pub at_group : {rest : PartialTakes} (order : List ℕ) (left : List C) (group : C) (others : List C) (codes : List ℕ) → left ≡ group ∷ others → codes_of_set order test group ≡ codes → TakesLeft test p round s groups takes old (codes_of_sets order test left) rest now
      → TakesLeft test p round s groups takes old (codes ∷ codes_of_sets order test others) rest now
  at_group {rest = rest} order left group others codes e same at =
      subst (λ z. TakesLeft test p round s groups takes old (z ∷ codes_of_sets order test others) rest now) same
      (subst (λ (z : List C). TakesLeft test p round s groups takes old (codes_of_sets order test z) rest now) e at)

  -- no take is left
  pub at_no_take : {left : List (List ℕ)} (list : List PartialTake) (i : ℕ) → length list ≤ i → TakesLeft test p round s groups takes old left (list_of_begun (drop i list)) now → TakesLeft test p round s groups takes old left no_begun now
  at_no_take {left = left} list i all at = subst (λ z. TakesLeft test p round s groups takes old left (list_of_begun z) now) (drop_all i list all) at

  module _ {codes : List ℕ} {tree : PartialTree} {others : PartialTakes} {left : List (List ℕ)} where
    -- what is looked through is no more than in all
    take_looks : TakesLeft test p round s groups takes old (codes ∷ left) (take_begun codes tree others) now → (n : ℕ) → BegunLook takes p round s groups n → (m : ℕ) × TakeLooks p round s codes tree others left m × (m ≤ n)
    take_looks at n h = let m = at.looks n h in (m.0, where_fine (IsNextTake (codes ∷ left) codes) (TakeLooks p round s codes tree others left) m.0 m.1 refl, m.2)

    -- one take more was taken
    pub taken_more : (later : List (StateHeld C)) → TakesLeft test p round s groups takes old (codes ∷ left) (take_begun codes tree others) now → IsTakenPart test p round (close codes s) tree now later → TakesLeft test p round s groups takes old left others later
    taken_more later at taken = record {
      gives = λ h. at.gives (ap (λ z. codes ∷ z) h.0, (taken.proof.0, h.1), (taken.proof.1, h.2));
      asks = λ h. let k = at.asks h in let rest : begun_groups others ≡ left = cc (k.0) in (rest, k.1.1, k.2.1);
      looks = λ n h.
          let m = take_looks at n h in
          let both = m.1 in
          (both.1, where_fine (ProvesPart tree p round (close codes s)) (BegunLook others p round s left) both.1 both.3 taken.proof.1, omega (arith, m.2, both.4));
      lines = omega (arith, at.lines);
      adds = before_rest later (open_states tree round (close codes s)) at.adds taken.adds;
    }

    -- a take whose tree is refused
    pub take_refused : (budget : ℕ) (stop : PartStop) → TakesLeft test p round s groups takes old (codes ∷ left) (take_begun codes tree others) now → IsPartRefusal p budget round (close codes s) tree stop → IsTakesRefusal p budget round s groups takes stop
    take_refused budget NotAProof at refused = λ h. let k = at.asks h in refused (k.1.0, k.2.0)
    take_refused budget Budget at refused = λ n h.
        let m = take_looks at n h in
        let both = m.1 in
        omega (arith, refused (3 * (part_lines tree + both.0)) (both.0, both.2, refl), m.2, both.4, at.lines)
    take_refused budget Memory at refused = tt

    -- a take of another group than the next one, which is at fault
    pub stray_take : (fault : CheckFault) → TakesLeft test p round s groups takes old left (take_begun codes tree others) now → NamesFault fault (IsTakeFault left codes) → ¬ AreTakeProofs p round s groups takes
    stray_take fault at named h = go left ((at.asks h).0) named.2
      where
        go : (left : List (List ℕ)) → codes ∷ begun_groups others ≡ left → IsTakeFault left codes named.0 → ⊥
        go [] e other = absurd (cc)
        go (group ∷ more) e (inl other) = let same : group ≡ codes = cc in other.2 same
        go (group ∷ more) e (inr other) = let same : group ≡ codes = cc in other.1 (contains_from_has (group ∷ more) codes (inl same))

  -- all takes were taken, or a group has none
  pub takes_done : TakesLeft test p round s groups takes old [] no_begun now → AreTakenParts test p round s groups takes old now
  takes_done at = record { proofs = at.gives (refl, tt, tt); adds = before_none at.adds }

  pub group_left : {left : List (List ℕ)} → TakesLeft test p round s groups takes old left no_begun now → left ≢ [] → ¬ AreTakeProofs p round s groups takes
  group_left at some h = some (sym (at.asks h).0)

-- what is left of a partial tree, at the state where it stands, beside all of it
pub record PartLeft {C : Type 0} (test : C → ℕ → Bool) (p : Problem) (round : Round) (first : State) (tree : PartialTree) (old : List (StateHeld C)) (s : State) (rest : PartialTree) (now : List (StateHeld C)) : Type 0 where
  pub gives : IsPartProof p round s rest → IsPartProof p round first tree
  pub asks : IsPartProof p round first tree → IsPartProof p round s rest
  pub looks : (n : ℕ) → PartLooks tree p round first n → (m : ℕ) × PartLooks rest p round s m × (m ≤ n)
  pub lines : part_lines rest ≤ part_lines tree
  pub adds : AddsBefore round.order test old now (open_states tree round first) (open_states rest round s)

pub nothing_yet : {C : Type 0} (test : C → ℕ → Bool) (p : Problem) (round : Round) (s : State) (part : Declared) (bs : List PartialBranch) (old : List (StateHeld C)) → bs ≡ (out-PartialTree part).branches.items
    → PartLeft test p round s (partial_of part) old s (list_onto bs (rest_of (out-PartialTree part).rest)) old
nothing_yet test p round s part bs old are = subst (λ z. PartLeft test p round s (partial_of part) old s z old) same all
  where
    same : partial_of part ≡ list_onto bs (rest_of (out-PartialTree part).rest)
    same = tree_made part ∙ ap (λ z. list_onto z (rest_of (out-PartialTree part).rest)) (sym are)

    all : PartLeft test p round s (partial_of part) old s (partial_of part) old
    all = record {
      gives = λ h. h;
      asks = λ h. h;
      looks = λ n h. (n, h, omega arith);
      lines = omega arith;
      adds = before_all old (open_states (partial_of part) round s);
    }

module _ {C : Type 0} {test : C → ℕ → Bool} {p : Problem} {round : Round} {first : State} {tree : PartialTree} {old : List (StateHeld C)} {s : State} {now : List (StateHeld C)} where
  -- the branch that is read
  pub at_branch : (bs : List PartialBranch) (i : ℕ) (b : PartialBranch) (rest : PartialTree) → b ≡ get_or bs i b → i < length bs → PartLeft test p round first tree old s (list_onto (drop i bs) rest) now
      → PartLeft test p round first tree old s (begun (out-PartialBranch b).county (out-PartialBranch b).limit (list_of_begun (out-PartialBranch b).takes.items) (list_onto (drop (i + 1) bs) rest)) now
  at_branch bs i b rest is lt at = subst (λ z. PartLeft test p round first tree old s z now) (left_branches bs i b rest is lt) at

  -- what stands behind all branches
  pub at_rest : {rest end : PartialTree} (bs : List PartialBranch) (i : ℕ) → length bs ≤ i → rest ≡ end → PartLeft test p round first tree old s (list_onto (drop i bs) rest) now → PartLeft test p round first tree old s end now
  at_rest {rest = rest} bs i all is at = subst (λ z. PartLeft test p round first tree old s z now) (ap (λ z. list_onto z rest) (drop_all i bs all) ∙ is) at

module _ {C : Type 0} {test : C → ℕ → Bool} {p : Problem} {round : Round} {first : State} {tree : PartialTree} {old : List (StateHeld C)} {s : State} {county : ℕ} {limit : Option ℕ} {takes : PartialTakes} {raised : PartialTree} {now : List (StateHeld C)}
    (at : PartLeft test p round first tree old s (begun county limit takes raised) now) where
  abbrev BranchLooks : List (List ℕ) → ℕ → Type 0
  BranchLooks groups =
      Both (BegunLook takes p round s groups)
      (Where ((begun_groups takes ≡ groups) × EachProvesPart takes p round s) (PartLooks raised p round (raise county (limit_of round limit) s)))

  abbrev Line : ℕ → Type 0
  Line = Both (IsSetCount round.order (IsSetAt p round.order s county (limit_of round limit)))
      (λ m. (groups : List (List ℕ)) × AreGroupsAt p round s county (limit_of round limit) groups × BranchLooks groups m)

  line_looks : (n : ℕ) → PartLooks tree p round first n → NamesLimit round.format limit → CanBranch round s county (limit_of round limit) → (m : ℕ) × Line m × (m ≤ n)
  line_looks n h names can =
      let m = at.looks n h in
      (m.0, where_fine (NamesLimit round.format limit × CanBranch round s county (limit_of round limit)) Line m.0 m.1 (names, can), m.2)

  -- no branch can be there
  pub no_branch : (budget : ℕ) → ¬ (NamesLimit round.format limit × CanBranch round s county (limit_of round limit)) → IsPartRefusal p budget round first tree NotAProof
  no_branch budget none h = let k = (at.asks h).1 in none (k.0, k.1)

  pub no_line : (budget : ℕ) → ¬ FitsInTree round.format (Opens (Branch county limit)) → IsPartRefusal p budget round first tree NotAProof
  no_line budget none h = none (at.asks h).0.0

  -- the budget is below the sets that are looked through for the branch
  pub line_over : (budget : ℕ) → NamesLimit round.format limit → CanBranch round s county (limit_of round limit) → ((m : ℕ) → IsSetCount round.order (IsSetAt p round.order s county (limit_of round limit)) m → budget ≤ 2 * m) → IsPartRefusal p budget round first tree Budget
  line_over budget names can over cost h =
      let l = line_looks h.0 h.1 names can in
      omega (arith, over l.1.0 l.1.2, l.2, l.1.4, h.2, at.lines)

  -- the line of a branch that can't be judged
  pub line_refused : (budget : ℕ) (stop : LineStop) → StopsAt stop (IsBranchFault round s county (limit_of round limit)) (NamesLimit round.format limit → ⊥)
      → (stop ≡ StepLimit → NamesLimit round.format limit × CanBranch round s county (limit_of round limit) × ((m : ℕ) → IsSetCount round.order (IsSetAt p round.order s county (limit_of round limit)) m → budget ≤ 2 * m))
      → IsPartRefusal p budget round first tree (part_stop stop)
  line_refused budget (Fault f) named over = no_branch budget (λ h. go h.1 named.2)
    where
      go : CanBranch round s county (limit_of round limit) → IsBranchFault round s county (limit_of round limit) named.0 → ⊥
      go can (inl none) = false≢true (sym (none.1 county) ∙ can.is_open)
      go can (inr none) = none.2 can
  line_refused budget Unspelled none over = no_branch budget (λ h. none h.0)
  line_refused budget StepLimit h over = let k = over refl in line_over budget k.0 k.1 k.2
  line_refused budget LineMemory h over = tt

  module _ (groups : List (List ℕ)) (names : NamesLimit round.format limit) (can : CanBranch round s county (limit_of round limit)) (are : AreGroupsAt p round s county (limit_of round limit) groups) where
    one_list : (others : List (List ℕ)) → AreGroupsAt p round s county (limit_of round limit) others → others ≡ groups
    one_list others theirs = (leaves_are_decided).groups_at p round s county (limit_of round limit) others groups theirs are

    pub takes_refused : (budget : ℕ) (stop : PartStop) → IsTakesRefusal p budget round s groups takes stop → IsPartRefusal p budget round first tree stop
    takes_refused budget NotAProof refused = λ h.
        let k = at.asks h in
        refused (one_list (begun_groups takes) k.1.2, k.0.2, k.1.3)
    takes_refused budget Budget refused = λ cost h.
        let l = line_looks h.0 h.1 names can in
        let same = one_list l.1.3.0 l.1.3.1 in
        omega (arith, refused l.1.3.2.0 (subst (λ z. BegunLook takes p round s z l.1.3.2.0) same l.1.3.2.2), l.2, l.1.4, l.1.3.2.4, h.2, at.lines)
    takes_refused budget Memory refused = tt

    -- the branch and its takes are fine
    pub branch_taken : (later : List (StateHeld C)) → FitsInTree round.format (Opens (Branch county limit)) → AreSets groups → AreTakenParts test p round s groups takes now later → PartLeft test p round first tree old (raise county (limit_of round limit) s) raised later
    branch_taken later fits sets taken = record {
      gives = λ h. at.gives ((fits, subst AreSets (sym taken.proofs.0) sets, taken.proofs.1, h.0), (names, can, subst (AreGroupsAt p round s county (limit_of round limit)) (sym taken.proofs.0) are, taken.proofs.2, h.1));
      asks = λ h. let k = at.asks h in (k.0.3, k.1.4);
      looks = λ n h.
          let l = line_looks n h names can in
          let same = one_list l.1.3.0 l.1.3.1 in
          let looks = l.1.3.2 in (
            looks.1,
            where_fine ((begun_groups takes ≡ l.1.3.0) × EachProvesPart takes p round s) (PartLooks raised p round (raise county (limit_of round limit) s)) looks.1 looks.3 (taken.proofs.0 ∙ sym same, taken.proofs.2),
            omega (arith, l.2, l.1.4, looks.4),
          );
      lines = omega (arith, at.lines);
      adds = before_rest later (states_in takes round s) at.adds taken.adds;
    }

-- the open leaf, or the whole tree, behind all branches
module _ {C : Type 0} {test : C → ℕ → Bool} {p : Problem} {round : Round} {first : State} {tree : PartialTree} {old : List (StateHeld C)} {s : State} {now : List (StateHeld C)} where
  pub leaf_taken : (later : List (StateHeld C)) (state : StateHeld C) → PartLeft test p round first tree old s open_leaf now → later ≡ now ++ state ∷ [] → IsPlaced (length round.order) test state → state_at round.order test state ≡ s → IsTakenPart test p round first tree old later
  leaf_taken later state at e placed is = record { proof = at.gives (tt, tt); adds = before_none (before_rest later (s ∷ []) at.adds (adds_one round.order test now later state s e placed is)) }

  pub whole_taken : {rest : Tree} → PartLeft test p round first tree old s (whole rest) now → IsPartProof p round s (whole rest) → IsTakenPart test p round first tree old now
  whole_taken at proof = record { proof = at.gives proof; adds = before_none at.adds }

  pub rest_refused : {rest : PartialTree} (budget : ℕ) (stop : PartStop) → PartLeft test p round first tree old s rest now → IsPartRefusal p budget round s rest stop → IsPartRefusal p budget round first tree stop
  rest_refused budget NotAProof at refused = λ h. refused (at.asks h)
  rest_refused {rest = rest} budget Budget at refused = λ cost h.
      let m = at.looks h.0 h.1 in
      omega (arith, refused (3 * (part_lines rest + m.0)) (m.0, m.1, refl), m.2, h.2, at.lines)
  rest_refused budget Memory at refused = tt
