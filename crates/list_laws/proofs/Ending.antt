-- The ends of a complete proof tree, by induction over the tree: they are sets of groupings, and each grouping with the
-- target's counts is among them.
use Rattle.std.proofs.Common.{◌≡◌, ℕ, ◌≤◌, ◌<◌, Bool, true, false, cond, List, [], ◌∷◌, length, refl, sym, ap, ◌∙◌, subst, arith, ◌⊎◌, inl, inr, ⊎_elim, Some, All}
use Rattle.grouping_laws.specs.Problem.{Problem}
use Rattle.grouping_laws.specs.Grouping.{Grouping, Lawful, counts, sets_of}
use Rattle.grouping_laws.specs.GroupsFrom.{IsOrder}
use Rattle.grouping_laws.proofs.Elements.{Has, has_all, has_append, has_left, has_right, has_from_contains, contains_from_has, has-map}
use Rattle.grouping_laws.proofs.Sizes.{below_first}
use Rattle.certificate_data.specs.Round.{Round}
use Rattle.certificate_laws.specs.State.{State, IsState, close, raise}
use Rattle.certificate_laws.specs.Agreement.{Agrees}
use Rattle.certificate_data.specs.Tree.{Allowance, Leaf, stuck, seats, bound, Tree, leaf, branch, Takes, no_take, take, groups_of}
use Rattle.certificate_laws.specs.BoundLines.{Bounds, IsBound}
use Rattle.certificate_laws.specs.Leaves.{IsValidLeaf}
use Rattle.certificate_laws.specs.Proving.{Proves, EachProves, CanBranch, limit_of}
use Rattle.certificate_laws.specs.Groups.{IsGroupAt}
use Rattle.certificate_laws.specs.Certificate.{TargetFits}
use Rattle.certificate_laws.proofs.Completion.{open_least}
use Rattle.certificate_laws.proofs.LeafLemmas.{part_is_filled, seats_fit}
use Rattle.certificate_laws.proofs.Agreement.{peeled, peeled_completes}
use Rattle.certificate_laws.proofs.Branches.{branch_keeps_state}
use Rattle.list_laws.specs.AllBest.{SameSets}
use Rattle.list_laws.specs.Ends.{wanted, falls_short, leaf_ends, ends, ends_in}
use Rattle.list_laws.specs.Completeness.{IsFilled, IsCompleteLeaf, IsComplete, EachIsComplete}
use Rattle.list_laws.proofs.Filled.{agrees_from_same, same_from_agrees, counts_same, filled_lawful}
use Rattle.list_laws.proofs.Short.{none_short}
use Rattle.list_laws.proofs.Exact.{exact, none_above}

-- some lawful grouping has the sets, and each lawful grouping with the sets agrees with the state and has the target's
-- counts
pub record IsEndAt (p : Problem) (s : State) (t : Grouping) (k : List (List ℕ)) : Type 0 where
  pub some : (g : Grouping) × Lawful p g × SameSets (sets_of g) k
  pub each : (g : Grouping) → Lawful p g → SameSets (sets_of g) k → Agrees s g × ((i : ℕ) → 1 ≤ i → counts (sets_of g) i ≡ counts (sets_of t) i)

-- the bound lines, with the target's counts
lines_of : (p : Problem) (round : Round) (s : State) (lines : List Allowance) → IsBound p round s lines → Bounds round.format p round.limit s (wanted round.target) 1 0 lines
lines_of p round s lines v = subst (λ z. Bounds round.format p round.limit s (wanted z) 1 0 lines) (sym v.1) v.2

module _ (p : Problem) (round : Round) (t : Grouping) (is_target : round.target ≡ Some t) (fits : TargetFits p round.limit round.target) where
  pub small : (g : List ℕ) → Has (sets_of t) g → length g ≤ round.limit
  small g h =
      let f : Lawful p t × All (λ s. length s.codes ≤ round.limit) t = subst (TargetFits p round.limit) is_target fits in
      let m = has-map t g h in
      subst (λ z. length z ≤ round.limit) m.2 (has_all (λ s. length s.codes ≤ round.limit) t f.1 m.0 m.1)

  -- the closed groups of a filled state have the target's counts
  filled_counts : (s : State) → IsState p round s → ((c : ℕ) → s.rest c ≡ false) → (lines : List Allowance) → IsBound p round s lines → falls_short p s (wanted round.target) 1 0 lines ≡ false
      → (i : ℕ) → 1 ≤ i → counts s.closed i ≡ counts (sets_of t) i
  filled_counts s state none_left lines v enough i some = ⊎_elim within above (cases i round.limit)
    where
      cases : (a b : ℕ) → (a ≤ b) ⊎ (b < a)
      cases a b = grind arith

      within : i ≤ round.limit → counts s.closed i ≡ counts (sets_of t) i
      within l = exact p s none_left round.format round.limit (wanted round.target) lines 1 0 (lines_of p round s lines v) (omega arith) enough i some l ∙ ap (λ z. wanted z i) is_target

      above : round.limit < i → counts s.closed i ≡ counts (sets_of t) i
      above l = none_above round.limit i s.closed (has_all (λ g. length g ≤ round.limit) s.closed state.small) l ∙ sym (none_above round.limit i (sets_of t) small l)

  leaf_end : (s : State) → IsState p round s → (l : Leaf) → IsValidLeaf p round s l → IsCompleteLeaf l p round s → (k : List (List ℕ)) → Has (leaf_ends l p round s) k → IsEndAt p s t k
  leaf_end s state (stuck county) v c k h = absurd h
  leaf_end s state seats v c k h = absurd h
  leaf_end s state (bound lines) v c k h = go (falls_short p s (wanted round.target) 1 0 lines) refl h
    where
      filled : falls_short p s (wanted round.target) 1 0 lines ≡ false → IsEndAt p s t s.closed
      filled e =
          let f : IsFilled p s = c e in
          record {
            some = filled_lawful p round s state f;
            each = λ g lawful same.
                let agrees = agrees_from_same p round s state f.none_left g lawful same in
                (agrees, λ i some. sym (counts_same p round s state f.none_left g lawful agrees i) ∙ filled_counts s state f.none_left lines v e i some);
          }

      go : (b : Bool) → falls_short p s (wanted round.target) 1 0 lines ≡ b → Has (cond b [] (s.closed ∷ [])) k → IsEndAt p s t k
      go true e i = absurd i
      go false e (inl i) = subst (IsEndAt p s t) i (filled e)
      go false e (inr i) = absurd i

  -- an end below is an end here
  lower_closed : (s : State) (x : List ℕ) (county limit : ℕ) (k : List (List ℕ)) → IsGroupAt p round s county limit x → IsEndAt p (close x s) t k → IsEndAt p s t k
  lower_closed s x county limit k at e = record {
    some = e.some;
    each = λ g lawful same. let r = e.each g lawful same in ((branch_keeps_state).closed_agrees round.format p s x g at.fits r.0, r.1);
  }

  lower_raised : (s : State) (county limit : ℕ) (k : List (List ℕ)) → CanBranch round s county limit → IsEndAt p (raise county limit s) t k → IsEndAt p s t k
  lower_raised s county limit k can e = record {
    some = e.some;
    each = λ g lawful same. let r = e.each g lawful same in ((branch_keeps_state).raised_agrees s county limit g (omega (arith, open_least s limit county can.is_open)) r.0, r.1);
  }

  pub below_closed : (s : State) (x : List ℕ) (county limit : ℕ) → IsState p round s → CanBranch round s county limit → IsGroupAt p round s county limit x → IsState p round (close x s)
  below_closed s x county limit state can at = (branch_keeps_state).closed_state p round s x state at.fits (omega (arith, at.small, can.small))

  pub below_raised : (s : State) (county limit : ℕ) → IsState p round s → CanBranch round s county limit → IsState p round (raise county limit s)
  below_raised s county limit = (branch_keeps_state).raised_state p round s county limit

  mutual
    pub tree_end : (tree : Tree) (s : State) → IsState p round s → Proves tree p round s → IsComplete tree p round s → (k : List (List ℕ)) → Has (ends tree p round s) k → IsEndAt p s t k
    tree_end (leaf l) s state v c k h = leaf_end s state l v c k h
    tree_end (branch county limit takes raised) s state v c k h =
        ⊎_elim
        (λ i. let r = take_end takes s county (limit_of round limit) state v.1 (λ x j. (v.2.each x).0 (contains_from_has (groups_of takes) x j)) v.3 c.0 k i in
        lower_closed s r.0 county (limit_of round limit) k ((v.2.each r.0).0 (contains_from_has (groups_of takes) r.0 r.1)) r.2)
        (λ i. lower_raised s county (limit_of round limit) k v.1 (tree_end raised (raise county (limit_of round limit) s) (below_raised s county (limit_of round limit) state v.1) v.4 c.1 k i))
        (has_append (ends_in takes p round s) (ends raised p round (raise county (limit_of round limit) s)) k h)

    pub take_end : (takes : Takes) (s : State) (county limit : ℕ) → IsState p round s → CanBranch round s county limit → ((x : List ℕ) → Has (groups_of takes) x → IsGroupAt p round s county limit x)
        → EachProves takes p round s → EachIsComplete takes p round s → (k : List (List ℕ)) → Has (ends_in takes p round s) k → (x : List ℕ) × Has (groups_of takes) x × IsEndAt p (close x s) t k
    take_end no_take s county limit state can at v c k h = absurd h
    take_end (take codes tree others) s county limit state can at v c k h =
        ⊎_elim
        (λ i. (codes, inl refl, tree_end tree (close codes s) (below_closed s codes county limit state can (at codes (inl refl))) v.0 c.0 k i))
        (λ i. let r = take_end others s county limit state can (λ x j. at x (inr j)) v.1 c.1 k i in (r.0, inr r.1, r.2))
        (has_append (ends tree p round (close codes s)) (ends_in others p round s) k h)

  module _ (order : IsOrder p round.order) (g : Grouping) (lawful : Lawful p g) (same : (i : ℕ) → 1 ≤ i → counts (sets_of g) i ≡ counts (sets_of t) i) where
    abbrev pub Found : List (List (List ℕ)) → Type 0
    Found lists = (k : List (List ℕ)) × Has lists k × SameSets (sets_of g) k

    leaf_finds : (s : State) → IsState p round s → (l : Leaf) → IsValidLeaf p round s l → IsCompleteLeaf l p round s → Agrees s g → Found (leaf_ends l p round s)
    leaf_finds s state (stuck county) v c agrees = absurd (part_is_filled p s state.once (peeled p round s state g lawful agrees).opens (peeled_completes p round s state g lawful agrees) v.part v.is_part v.cannot_fill)
    leaf_finds s state seats v c agrees = absurd (seats_fit p s state.once (peeled p round s state g lawful agrees).opens (peeled_completes p round s state g lawful agrees) v)
    leaf_finds s state (bound lines) v c agrees = go (falls_short p s (wanted round.target) 1 0 lines) refl
      where
        go : (b : Bool) → falls_short p s (wanted round.target) 1 0 lines ≡ b → Found (cond b [] (s.closed ∷ []))
        go true e =
            let rest = peeled p round s state g lawful agrees in
            absurd (none_short round.format p s state.once rest.opens (peeled_completes p round s state g lawful agrees) round.limit (wanted round.target)
            (λ j some. rest.sizes j ∙ (same j some ∙ sym (ap (λ z. wanted z j) is_target)))
            lines 1 0 (lines_of p round s lines v) (omega arith) (sym (below_first (sets_of rest.opens))) e)
        go false e = let f : IsFilled p s = c e in (s.closed, inl refl, same_from_agrees p round s state f.none_left g lawful agrees)

    mutual
      pub finds : (tree : Tree) (s : State) → IsState p round s → Proves tree p round s → IsComplete tree p round s → Agrees s g → Found (ends tree p round s)
      finds (leaf l) s state v c agrees = leaf_finds s state l v c agrees
      finds (branch county limit takes raised) s state v c agrees =
          ⊎_elim
          (λ r. let q = take_finds takes s v.3 c.0 r.0 (has_from_contains (groups_of takes) r.0 ((v.2.each r.0).1 r.1)) (below_closed s r.0 county (limit_of round limit) state v.1 r.1) r.2 in
          (q.0, has_left (ends_in takes p round s) (ends raised p round (raise county (limit_of round limit) s)) q.0 q.1, q.2))
          (λ a. let q = finds raised (raise county (limit_of round limit) s) (below_raised s county (limit_of round limit) state v.1) v.4 c.1 a in
          (q.0, has_right (ends_in takes p round s) (ends raised p round (raise county (limit_of round limit) s)) q.0 q.1, q.2))
          ((branch_keeps_state).some_agrees p round s county (limit_of round limit) g order state v.1.is_open lawful agrees)

      take_finds : (takes : Takes) (s : State) → EachProves takes p round s → EachIsComplete takes p round s → (x : List ℕ) → Has (groups_of takes) x → IsState p round (close x s) → Agrees (close x s) g → Found (ends_in takes p round s)
      take_finds no_take s v c x h state agrees = absurd h
      take_finds (take codes tree others) s v c x (inl e) state agrees =
          let q = finds tree (close codes s) (subst (λ z. IsState p round (close z s)) (sym e) state) v.0 c.0 (subst (λ z. Agrees (close z s) g) (sym e) agrees) in
          (q.0, has_left (ends tree p round (close codes s)) (ends_in others p round s) q.0 q.1, q.2)
      take_finds (take codes tree others) s v c x (inr h) state agrees =
          let q = take_finds others s v.1 c.1 x h state agrees in
          (q.0, has_right (ends tree p round (close codes s)) (ends_in others p round s) q.0 q.1, q.2)
