-- A search ends with a complete tree or a greater grouping.
use Rattle.std.proofs.Common.{◌≡◌, ℕ, zero, suc, ◌+◌, ◌*◌, ◌≤◌, ◌<◌, Bool, true, false, nat_lt, ◌||◌, List, [], ◌∷◌, ◌++◌, length, refl, sym, ap, ◌∙◌, subst, arith, ◌⊎◌, inl, inr, ⊎_elim, Option, Some, None}
use Rattle.std.proofs.lemmas.Bool.{lt-ltb, false≢true, cases_lt}
use Rattle.grouping_laws.specs.Sets.{sum_by}
use Rattle.grouping_laws.specs.Problem.{Problem, IsProblem}
use Rattle.grouping_laws.specs.Grouping.{Grouping, counts, sets_of, IsGreater}
use Rattle.grouping_laws.specs.Ranges.{seated}
use Rattle.grouping_laws.proofs.Elements.{Has, has_all, contains_from_has}
use Rattle.grouping_laws.proofs.Order.{SameUpTo, compared}
use Rattle.grouping_laws.proofs.Ranges.{people_have_ranges}
use Rattle.grouping_laws.proofs.Seated.{seated_sets}
use Rattle.certificate_data.specs.declared.format.Format.{Format}
use Rattle.certificate_data.specs.declared.format.Format.TheVariants.{Plain, Wide}
use Rattle.certificate_data.specs.Round.{Round}
use Rattle.certificate_laws.specs.Regions.{listed}
use Rattle.certificate_laws.specs.State.{State, IsState, open_to, close, raise}
use Rattle.certificate_laws.specs.Fitting.{NoGroupFits}
use Rattle.certificate_data.specs.Tree.{Allowance, weigh, bound, stuck, seats, leaf, branch, Takes, take, no_take, groups_of}
use Rattle.certificate_laws.specs.BoundLines.{allowance, IsFair, Bounds, IsBound, weight_of}
use Rattle.certificate_laws.specs.Leaves.{IsStuck, IsOffSeats}
use Rattle.certificate_laws.specs.Proving.{limit_of, NamesLimit, EachProves, Proves, CanBranch, GoesInOrder}
use Rattle.certificate_laws.specs.Groups.{AreGroupsAt, IsGroupAt}
use Rattle.certificate_laws.specs.Certificate.{Beats, TargetFits}
use Rattle.certificate_laws.specs.Branching.{steps_left}
use Rattle.certificate_laws.specs.Search.{HasNoLeaf, IsFound}
use Rattle.certificate_laws.proofs.Completion.{rest_listed, open_least}
use Rattle.certificate_laws.proofs.Regions.{parts_exist}
use Rattle.certificate_laws.proofs.Branches.{branch_keeps_state}
use Rattle.certificate_laws.proofs.Ends.{finished_state_beats}
use Rattle.list_laws.specs.Ends.{wanted, falls_short}
use Rattle.list_laws.specs.Completeness.{IsComplete, EachIsComplete}
use Rattle.list_laws.specs.Searching.{CompleteOutcome, CompleteSearchEnds}
use Rattle.list_laws.proofs.Exact.{none_above}
use Rattle.list_laws.proofs.Ending.{small}
use Rattle.list_laws.proofs.Level.{none_left, filled}

or_yes : (b : Bool) → (b || true) ≡ true
or_yes true = refl
or_yes false = refl

-- lines that allow nothing
abbrev empties : ℕ → List Allowance
empties zero = []
empties (suc n) = weigh 1 [] ∷ empties n

none_weigh : (xs : List ℕ) → sum_by (weight_of []) xs ≡ 0
none_weigh [] = refl
none_weigh (x ∷ xs) = omega (arith, none_weigh xs)

module _ (format : Format) (p : Problem) (limit : ℕ) (s : State) (f : ℕ → ℕ) where
  no_allowance : (i used : ℕ) → allowance p s i used (weigh 1 []) ≡ 0
  no_allowance i used = omega (arith, none_weigh (listed p (open_to s i)))

  -- if more groups are closed at the first size that differs, no line there is valid
  none_bound : (d : ℕ) → d ≤ limit → f d < counts s.closed d → (lines : List Allowance) (i used : ℕ) → i ≤ d → ((j : ℕ) → i ≤ j → j < d → counts s.closed j ≡ f j) → Bounds format p limit s f i used lines → ⊥
  none_bound d under more [] i used from level b = omega (arith, b)
  none_bound d under more (line ∷ lines) i used from level b = go (none_bound d under more lines (i + 1) (used + i * allowance p s i used line)) (cases_lt i d) b.1
    where
      at : (d < i + 1) → i ≡ d
      at h = omega arith

      go : (i + 1 ≤ d → ((j : ℕ) → i + 1 ≤ j → j < d → counts s.closed j ≡ f j) → Bounds format p limit s f (i + 1) (used + i * allowance p s i used line) lines → ⊥)
          → (i < d) ⊎ (d ≤ i)
          → ((counts s.closed i + allowance p s i used line ≡ f i) × Bounds format p limit s f (i + 1) (used + i * allowance p s i used line) lines) ⊎ ((i ≤ limit) × (counts s.closed i + allowance p s i used line < f i) × (lines ≡ []))
          → ⊥
      go next (inl before) (inl r) = next (omega arith) (λ j a b. level j (omega arith) b) r.1
      go next (inl before) (inr r) = omega (arith, r.1, level i (omega arith) before)
      go next (inr here) (inl r) = omega (arith, r.0, subst (λ z. f z < counts s.closed z) (sym (at (omega arith))) more)
      go next (inr here) (inr r) = omega (arith, r.1, subst (λ z. f z < counts s.closed z) (sym (at (omega arith))) more)

  module _ (fair : (i : ℕ) → i ≤ limit → IsFair format p s i (weigh 1 [])) where
    level_bounds : (n i used : ℕ) → n + i ≡ limit + 1 → ((j : ℕ) → i ≤ j → j ≤ limit → counts s.closed j ≡ f j) → Bounds format p limit s f i used (empties n)
    level_bounds zero i used e level = omega (arith, e)
    level_bounds (suc n) i used e level = (
      fair i (omega (arith, e)),
      inl (omega (arith, no_allowance i used, level i (omega arith) (omega (arith, e))), level_bounds n (i + 1) (used + i * allowance p s i used (weigh 1 [])) (omega (arith, e)) (λ j a b. level j (omega arith) b)),
    )

    short_bounds : (d : ℕ) → d ≤ limit → counts s.closed d < f d → (n i used : ℕ) → n + i ≡ d → ((j : ℕ) → i ≤ j → j < d → counts s.closed j ≡ f j) → Bounds format p limit s f i used (empties (suc n))
    short_bounds d under fewer zero i used e level = (
      fair i (omega (arith, e)),
      inr (omega (arith, e), omega (arith, no_allowance i used, subst (λ z. counts s.closed z < f z) (same e) fewer), refl),
    )
      where
        same : 0 + i ≡ d → d ≡ i
        same h = omega (arith, h)
    short_bounds d under fewer (suc n) i used e level = (
      fair i (omega (arith, e)),
      inl (omega (arith, no_allowance i used, level i (omega arith) (omega (arith, e))), short_bounds d under fewer n (i + 1) (used + i * allowance p s i used (weigh 1 [])) (omega (arith, e)) (λ j a b. level j (omega arith) b)),
    )

  short_falls : (d : ℕ) → counts s.closed d < f d → (n i used : ℕ) → n + i ≡ d → falls_short p s f i used (empties (suc n)) ≡ true
  short_falls d fewer zero i used e = rw (lt-ltb (counts s.closed i + allowance p s i used (weigh 1 [])) (f i) (omega (arith, no_allowance i used, subst (λ z. counts s.closed z < f z) (same e) fewer))) refl
    where
      same : 0 + i ≡ d → d ≡ i
      same h = omega (arith, h)
  short_falls d fewer (suc n) i used e = rw (short_falls d fewer n (i + 1) (used + i * allowance p s i used (weigh 1 [])) (omega (arith, e))) (or_yes (nat_lt (counts s.closed i + allowance p s i used (weigh 1 [])) (f i)))

-- how a branch of the format names its limit
limit_named : (format : Format) (round : Round) (s : State) (c j : ℕ) → GoesInOrder format round s c j → (limit : Option ℕ) × NamesLimit format limit × (limit_of round limit ≡ j)
limit_named Plain round s c j turn = (None, tt, sym turn.0)
limit_named Wide round s c j turn = (Some j, tt, refl)

module _ (p : Problem) (round : Round) (t : Grouping) (is : IsProblem p) (is_target : round.target ≡ Some t) (fits : TargetFits p round.limit round.target)
    (see_stuck : (s : State) → IsState p round s → ((c : ℕ) × IsStuck p s c) ⊎ ((c : ℕ) → ¬ IsStuck p s c))
    (see_seats : (s : State) → IsState p round s → IsOffSeats p s ⊎ (¬ IsOffSeats p s))
    (choose : (s : State) → IsState p round s → ((c : ℕ) × (j : ℕ) × CanBranch round s c j) ⊎ NoGroupFits p round s)
    (groups : (s : State) (c j : ℕ) → IsState p round s → CanBranch round s c j → (gs : List (List ℕ)) × AreGroupsAt p round s c j gs) where
  target_at : (i : ℕ) → wanted round.target i ≡ counts (sets_of t) i
  target_at i = ap (λ z. wanted z i) is_target

  -- no group fits, no part is stuck, and the seats are not off
  module _ (s : State) (state : IsState p round s) (no_stuck : (c : ℕ) → ¬ IsStuck p s c) (no_seats : ¬ IsOffSeats p s) (none : NoGroupFits p round s) where
    fair : (i : ℕ) → i ≤ round.limit → IsFair round.format p s i (weigh 1 [])
    fair i under = (omega arith, λ k d h. absurd (omega arith), λ g f e. absurd (none g f (omega (arith, e, under))))

    to_target : (lines : List Allowance) → Bounds round.format p round.limit s (wanted round.target) 1 0 lines → IsBound p round s lines
    to_target lines b = (t, is_target, subst (λ z. Bounds round.format p round.limit s (wanted z) 1 0 lines) is_target b)

    from_target : (lines : List Allowance) → IsBound p round s lines → Bounds round.format p round.limit s (wanted round.target) 1 0 lines
    from_target lines v = subst (λ z. Bounds round.format p round.limit s (wanted z) 1 0 lines) (sym v.1) v.2

    closed_small : (d : ℕ) → 1 ≤ counts s.closed d → d ≤ round.limit
    closed_small d some = ⊎_elim (λ over. absurd (omega (arith, none_above round.limit d s.closed (has_all (λ g. length g ≤ round.limit) s.closed state.small) over))) (λ l. l) (cases_lt round.limit d)

    target_small : (d : ℕ) → 1 ≤ counts (sets_of t) d → d ≤ round.limit
    target_small d some = ⊎_elim (λ over. absurd (omega (arith, none_above round.limit d (sets_of t) (small p round t is_target fits) over))) (λ l. l) (cases_lt round.limit d)

    ahead : IsGreater (counts s.closed) (counts (sets_of t)) → CompleteOutcome p round s
    ahead more =
        let no_leaf : HasNoLeaf p round round.limit s = record {
          no_stuck = no_stuck;
          no_seats = no_seats;
          no_count = λ lines few are v. none_bound round.format p round.limit s (wanted round.target) more.size (closed_small more.size (omega (arith, more.more))) (omega (arith, target_at more.size, more.more))
              lines 1 0 more.some_county (λ j a b. more.same_before j a b ∙ sym (target_at j)) (from_target lines v);
        } in
        let ps = parts_exist p is s.rest (rest_listed p s state.once) in
        let r = finished_state_beats p round s ps.0 (people_have_ranges p is.some_people is.tolerated) state none no_leaf ps.1 in
        let all = r.all r.some.0 r.some.1 r.some.2 in
        inr (seated (s.closed ++ ps.0) r.some.0, (all.0, all.1, subst (λ z. Beats round.target (counts z)) (sym (seated_sets p (s.closed ++ ps.0) r.some.0 r.some.1)) all.2))

    behind : IsGreater (counts (sets_of t)) (counts s.closed) → CompleteOutcome p round s
    behind less =
        let n = less.size in
        let under = target_small n (omega (arith, less.more)) in
        let fewer : counts s.closed n < wanted round.target n = omega (arith, less.more, target_at n) in
        let k = before n less.some_county in
        inl (
          leaf (bound (empties (suc k.0))),
          to_target (empties (suc k.0)) (short_bounds round.format p round.limit s (wanted round.target) fair n under fewer k.0 1 0 (omega (arith, k.1)) (λ j a b. sym (less.same_before j a b) ∙ sym (target_at j))),
          λ e. absurd (false≢true (sym e ∙ short_falls round.format p round.limit s (wanted round.target) n fewer k.0 1 0 (omega (arith, k.1)))),
        )
      where
        before : (n : ℕ) → 1 ≤ n → (k : ℕ) × (k + 1 ≡ n)
        before zero h = absurd (omega arith)
        before (suc n) h = (n, omega arith)

    level : SameUpTo round.limit (counts s.closed) (counts (sets_of t)) → CompleteOutcome p round s
    level same = inl (
      leaf (bound (empties round.limit)),
      to_target (empties round.limit) (level_bounds round.format p round.limit s (wanted round.target) fair round.limit 1 0 (omega arith) (λ j a b. same j a b ∙ sym (target_at j))),
      λ e. filled p is round s state (none_left p round s t is is_target fits state same) no_seats,
    )

    finished : CompleteOutcome p round s
    finished = ⊎_elim ahead (λ o. ⊎_elim behind level o) (compared round.limit (counts s.closed) (counts (sets_of t)))

  each_take : (s : State) (c j : ℕ) → ((g : List ℕ) → IsGroupAt p round s c j g → CompleteOutcome p round (close g s)) → (gs : List (List ℕ)) → ((g : List ℕ) → Has gs g → IsGroupAt p round s c j g)
      → ((takes : Takes) × (groups_of takes ≡ gs) × EachProves takes p round s × EachIsComplete takes p round s) ⊎ ((g : Grouping) × IsFound p round s g)
  each_take s c j next [] from = inl (no_take, refl, tt, tt)
  each_take s c j next (g ∷ gs) from =
      ⊎_elim
      (λ t. ⊎_elim (λ ts. inl (take g t.0 ts.0, ap (λ z. g ∷ z) ts.1, (t.1, ts.2), (t.2, ts.3))) (λ h. inr h) (each_take s c j next gs (λ x h. from x (inr h))))
      (λ h. inr (h.0, (h.1.0, (branch_keeps_state).closed_agrees round.format p s g h.0 (from g (inl refl)).fits h.1.1, h.1.2)))
      (next g (from g (inl refl)))

  branching : (s : State) → IsState p round s → ((u : State) → steps_left p round.limit u < steps_left p round.limit s → IsState p round u → CompleteOutcome p round u) → (c j : ℕ) → CanBranch round s c j → CompleteOutcome p round s
  branching s state next c j can =
      let gs = groups s c j state can in
      let keep = branch_keeps_state in
      let named = limit_named round.format round s c j can.in_turn in
      let back : j ≡ limit_of round named.0 = sym named.2 in
      ⊎_elim
      (λ ts. ⊎_elim
      (λ m. inl (
        branch c named.0 ts.0 m.0,
        (named.1, subst (CanBranch round s c) back can, subst (λ k. AreGroupsAt p round s c k (groups_of ts.0)) back (subst (AreGroupsAt p round s c j) (sym ts.1) gs.1), ts.2, subst (λ k. Proves m.0 p round (raise c k s)) back m.1),
        (ts.3, subst (λ k. IsComplete m.0 p round (raise c k s)) back m.2),
      ))
      (λ h. inr (h.0, (h.1.0, keep.raised_agrees s c j h.0 (omega (arith, open_least s j c can.is_open)) h.1.1, h.1.2)))
      (next (raise c j s) (keep.raised_fewer p round s c j state can) (keep.raised_state p round s c j state can)))
      (λ h. inr h)
      (each_take s c j (λ g from. next (close g s) (keep.closed_fewer p round s c j g can from) (keep.closed_state p round s g state from.fits (omega (arith, from.small, can.small)))) gs.0 (λ g h. (gs.1.each g).0 (contains_from_has gs.0 g h)))

  step : (s : State) → IsState p round s → ((u : State) → steps_left p round.limit u < steps_left p round.limit s → IsState p round u → CompleteOutcome p round u) → CompleteOutcome p round s
  step s state next =
      ⊎_elim
      (λ r. inl (leaf (stuck r.0), r.1, tt))
      (λ no_stuck. ⊎_elim
      (λ r. inl (leaf seats, r, tt))
      (λ no_seats. ⊎_elim (λ r. branching s state next r.0 r.1 r.2) (finished s state no_stuck no_seats) (choose s state))
      (see_seats s state))
      (see_stuck s state)

  search_from : (n : ℕ) (s : State) → steps_left p round.limit s ≤ n → IsState p round s → CompleteOutcome p round s
  search_from zero s few state = step s state (λ u l k. absurd (omega arith))
  search_from (suc n) s few state = step s state (λ u l k. search_from n u (omega arith) k)

  pub search_all : (s : State) → IsState p round s → CompleteOutcome p round s
  search_all s state = search_from (steps_left p round.limit s) s (omega arith) state

pub complete_search_ends : CompleteSearchEnds
complete_search_ends p round t is is_target fits see_stuck see_seats choose groups s state = search_all p round t is is_target fits see_stuck see_seats choose groups s state
