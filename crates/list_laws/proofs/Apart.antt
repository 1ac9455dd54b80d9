-- No two ends of a complete proof tree are the same.
use Rattle.std.proofs.Common.{◌≡◌, ℕ, ◌+◌, ◌≤◌, Bool, true, false, cond, List, [], ◌∷◌, ◌++◌, map, length, refl, sym, ap, ◌∙◌, subst, arith, inl, inr, Some, Contains, AllPairs}
use Rattle.std.proofs.lemmas.Bool.{eq-eqb}
use Rattle.std.proofs.lemmas.List.Elements.{filter_agree}
use Rattle.county_codes.specs.declared.group.Group.{Group}
use Rattle.grouping_laws.specs.Sets.{count_in, contains, SameSet}
use Rattle.grouping_laws.specs.Problem.{Problem}
use Rattle.grouping_laws.specs.Grouping.{Grouping, Lawful, sets_of}
use Rattle.grouping_laws.specs.GroupsFrom.{IsBefore, IsLesser, place}
use Rattle.place_sets.proofs.Sums.{digit_one}
use Rattle.grouping_laws.proofs.Elements.{Has, has_all, has_right, has_from_contains, contains_from_has, has_set}
use Rattle.grouping_laws.proofs.Sizes.{count-le-count_in}
use Rattle.certificate_data.specs.Round.{Round}
use Rattle.certificate_laws.specs.State.{State, IsState, close, raise}
use Rattle.certificate_laws.specs.Agreement.{Agrees}
use Rattle.certificate_data.specs.Tree.{Leaf, stuck, seats, bound, Tree, leaf, branch, Takes, no_take, take, groups_of}
use Rattle.certificate_laws.specs.Proving.{Proves, EachProves, CanBranch, limit_of}
use Rattle.certificate_laws.specs.Groups.{IsGroupAt}
use Rattle.certificate_laws.specs.Certificate.{TargetFits}
use Rattle.certificate_laws.proofs.Completion.{open_rest}
use Rattle.certificate_laws.proofs.Counting.{not_longer}
use Rattle.certificate_laws.proofs.Agreement.{one_group}
use Rattle.certificate_laws.proofs.Kept.{head_before, tail_pairs, pairs_append}
use Rattle.list_laws.specs.AllBest.{SameSets}
use Rattle.list_laws.specs.Ends.{wanted, falls_short, leaf_ends, ends, ends_in}
use Rattle.list_laws.specs.Completeness.{IsComplete, EachIsComplete}
use Rattle.list_laws.proofs.Same.{same_through}
use Rattle.list_laws.proofs.Ending.{tree_end, take_end, below_closed, below_raised}

lesser_irreflexive : (xs : List ℕ) → IsLesser xs xs → ⊥
lesser_irreflexive [] h = h
lesser_irreflexive (x ∷ xs) (inl l) = omega arith
lesser_irreflexive (x ∷ xs) (inr r) = lesser_irreflexive xs r.1

before_irreflexive : (order g : List ℕ) → IsBefore order g g → ⊥
before_irreflexive order g (inl l) = omega arith
before_irreflexive order g (inr r) = lesser_irreflexive (map (place order) g) r.1

abbrev pub Differ : List (List ℕ) → List (List ℕ) → Type 0
Differ j k = ¬ SameSets j k

module _ (p : Problem) (round : Round) (s : State) (county limit : ℕ) (g : Grouping) (lawful : Lawful p g) where
  once_in : (c : ℕ) → count_in c (sets_of g) ≤ 1
  once_in c = omega (arith, lawful.once c, digit_one (contains p.counties c))

  -- the set of the grouping that is a closed group
  closed_set : (a : List ℕ) → Agrees (close a s) g → (m : Group) × Has g m × SameSet m.codes a
  closed_set a agrees =
      let r = has_all (λ k. (m : Group) × Contains g m × SameSet m.codes k) (s.closed ++ a ∷ []) agrees.closed a (has_right s.closed (a ∷ []) a (inl refl)) in
      (r.0, has_from_contains g r.0 r.1, r.2)

  -- at most one of two groups with the county is closed
  one_closed : (a b : List ℕ) → IsGroupAt p round s county limit a → IsGroupAt p round s county limit b → Agrees (close a s) g → Agrees (close b s) g → a ≡ b
  one_closed a b at bt x y =
      let m = closed_set a x in
      let n = closed_set b y in
      let one = one_group county g m.0 n.0 m.1 n.1 (m.2 county ∙ at.has) (n.2 county ∙ bt.has) (once_in county) in
      sym at.in_order ∙ (filter_agree (contains a) (contains b) (λ c. sym (m.2 c) ∙ (ap (λ (z : Group). contains z.codes c) one ∙ n.2 c)) round.order ∙ bt.in_order)

  -- if the county is raised, none of them is closed
  not_raised : (a : List ℕ) → CanBranch round s county limit → IsGroupAt p round s county limit a → Agrees (close a s) g → Agrees (raise county limit s) g → ⊥
  not_raised a can at x y =
      let m = closed_set a x in
      let n = y.large county (open_rest s limit county can.is_open) in
      let one = one_group county g m.0 n.0 m.1 (has_from_contains g n.0 n.1) (m.2 county ∙ at.has) n.2 (once_in county) in
      let few = not_longer m.0.codes a (λ c. omega (arith, count-le-count_in c (sets_of g) m.0.codes (has_set g m.0 m.1), once_in c)) (λ c e. sym (m.2 c) ∙ e) in
      omega (arith, few, at.small, n.3, ap (λ b. cond b (limit + 1) (s.least county)) (eq-eqb county county refl), ap (λ (z : Group). length z.codes) one)

module _ (p : Problem) (round : Round) (t : Grouping) (is_target : round.target ≡ Some t) (fits : TargetFits p round.limit round.target) where
  leaf_apart : (s : State) (l : Leaf) → AllPairs Differ (leaf_ends l p round s)
  leaf_apart s (stuck county) = λ i j d a b. absurd (omega arith)
  leaf_apart s seats = λ i j d a b. absurd (omega arith)
  leaf_apart s (bound lines) = go (falls_short p s (wanted round.target) 1 0 lines)
    where
      go : (b : Bool) → AllPairs Differ (cond b [] (s.closed ∷ []))
      go true = λ i j d a b. absurd (omega arith)
      go false = λ i j d a b. absurd (omega arith)

  mutual
    pub tree_apart : (tree : Tree) (s : State) → IsState p round s → Proves tree p round s → IsComplete tree p round s → AllPairs Differ (ends tree p round s)
    tree_apart (leaf l) s state v c = leaf_apart s l
    tree_apart (branch county limit takes raised) s state v c =
        pairs_append Differ (ends_in takes p round s) (ends raised p round (raise county (limit_of round limit) s))
        (takes_apart takes s county (limit_of round limit) state v.1 at (v.2.sorted) v.3 c.0)
        (tree_apart raised (raise county (limit_of round limit) s) (below_raised p round t is_target fits s county (limit_of round limit) state v.1) v.4 c.1)
        (λ x h y k same.
        let ex = take_end p round t is_target fits takes s county (limit_of round limit) state v.1 at v.3 c.0 x h in
        let ey = tree_end p round t is_target fits raised (raise county (limit_of round limit) s) (below_raised p round t is_target fits s county (limit_of round limit) state v.1) v.4 c.1 y k in
        not_raised p round s county (limit_of round limit) ex.2.some.0 ex.2.some.1 ex.0 v.1 (at ex.0 ex.1)
        (ex.2.each ex.2.some.0 ex.2.some.1 ex.2.some.2).0
        (ey.each ex.2.some.0 ex.2.some.1 (same_through (sets_of ex.2.some.0) x y ex.2.some.2 same)).0)
      where
        at : (x : List ℕ) → Has (groups_of takes) x → IsGroupAt p round s county (limit_of round limit) x
        at x j = (v.2.each x).0 (contains_from_has (groups_of takes) x j)

    takes_apart : (takes : Takes) (s : State) (county limit : ℕ) → IsState p round s → CanBranch round s county limit → ((x : List ℕ) → Has (groups_of takes) x → IsGroupAt p round s county limit x)
        → AllPairs (IsBefore round.order) (groups_of takes) → EachProves takes p round s → EachIsComplete takes p round s → AllPairs Differ (ends_in takes p round s)
    takes_apart no_take s county limit state can at sorted v c = λ i j d a b. absurd (omega arith)
    takes_apart (take codes tree others) s county limit state can at sorted v c =
        pairs_append Differ (ends tree p round (close codes s)) (ends_in others p round s)
        (tree_apart tree (close codes s) (below_closed p round t is_target fits s codes county limit state can (at codes (inl refl))) v.0 c.0)
        (takes_apart others s county limit state can (λ x j. at x (inr j)) (tail_pairs (IsBefore round.order) codes (groups_of others) sorted) v.1 c.1)
        (λ x h y k same.
        let ex = tree_end p round t is_target fits tree (close codes s) (below_closed p round t is_target fits s codes county limit state can (at codes (inl refl))) v.0 c.0 x h in
        let ey = take_end p round t is_target fits others s county limit state can (λ x j. at x (inr j)) v.1 c.1 y k in
        let one = one_closed p round s county limit ex.some.0 ex.some.1 codes ey.0 (at codes (inl refl)) (at ey.0 (inr ey.1))
        (ex.each ex.some.0 ex.some.1 ex.some.2).0
        (ey.2.each ex.some.0 ex.some.1 (same_through (sets_of ex.some.0) x y ex.some.2 same)).0 in
        before_irreflexive round.order ey.0 (subst (λ z. IsBefore round.order z ey.0) one (head_before (IsBefore round.order) codes (groups_of others) sorted ey.0 ey.1)))
