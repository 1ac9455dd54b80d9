-- What is held tells the skeleton, but for its numbers.
use Rattle.std.proofs.Common.{◌≡◌, ℕ, ◌+◌, ◌<◌, ◌≤◌, Bool, true, false, cond, List, [], ◌∷◌, length, ◌==◌, refl, sym, ap, ◌∙◌, subst, arith, ◌⊎◌, inl, inr, ⊎_elim, Option, None, AllPairs, map, ◌↔◌}
use Rattle.std.proofs.lemmas.Bool.{eq-eqb, eqb-true}
use Rattle.grouping_laws.specs.Sets.{indicator, count_in, contains}
use Rattle.grouping_laws.specs.Problem.{Problem}
use Rattle.grouping_laws.specs.GroupsFrom.{IsBefore, IsLesser, place}
use Rattle.place_sets.proofs.Sums.{often_some}
use Rattle.grouping_laws.proofs.Digits.{true_digit}
use Rattle.grouping_laws.proofs.Elements.{Has, has_left, has_right, contains_from_has}
use Rattle.certificate_data.specs.Round.{Round}
use Rattle.certificate_laws.specs.State.{State, IsState, empty_state, close, raise}
use Rattle.certificate_laws.specs.Groups.{AreGroupsAt, IsGroupAt}
use Rattle.certificate_data.specs.Tree.{branch, take}
use Rattle.certificate_laws.specs.Proving.{limit_of, CanBranch}
use Rattle.certificate_laws.specs.Branching.{steps_left}
use Rattle.certificate_laws.proofs.Branches.{branch_keeps_state}
use Rattle.certificate_laws.proofs.Decided.{leaves_are_decided}
use Rattle.certificate_laws.proofs.Completion.{open_rest, open_least}
use Rattle.certificate_laws.proofs.Kept.{head_before, tail_pairs}
use Rattle.board_laws.specs.Skeleton.{Skeleton, waits, proved, split, Parts, no_part, part, groups_in, both, joined, joined_parts, IsSkeleton, EachIsSkeleton, bare, bare_parts}
use Rattle.board_laws.specs.Standing.{Held, a_tree, a_split, Holds, EachHolds}
use Rattle.board_laws.specs.Content.{Content, IsContent}
use Rattle.board_laws.specs.Laws.{SameIsJoined}

mutual
  joined_bare : (a : Skeleton) → joined (bare a) ≡ joined a
  joined_bare (waits n) = refl
  joined_bare (proved n tree) = refl
  joined_bare (split n county limit parts raised) = ap (λ z. both (branch county limit) z (joined (bare raised))) (joined_bare_parts parts) ∙ ap (both (branch county limit) (joined_parts parts)) (joined_bare raised)

  joined_bare_parts : (parts : Parts) → joined_parts (bare_parts parts) ≡ joined_parts parts
  joined_bare_parts no_part = refl
  joined_bare_parts (part codes skeleton others) = ap (λ z. both (take codes) z (joined_parts (bare_parts others))) (joined_bare skeleton) ∙ ap (both (take codes) (joined skeleton)) (joined_bare_parts others)

bare_joined : (a b : Skeleton) → bare a ≡ bare b → joined a ≡ joined b
bare_joined a b e = sym (joined_bare a) ∙ ap joined e ∙ joined_bare b

-- what holds of a state and is kept where groups are closed and counties raised holds wherever something is held
module _ (p : Problem) (round : Round) (P : State → Type 0)
    (closes : (s : State) (c j : ℕ) (g : List ℕ) → CanBranch round s c j → IsGroupAt p round s c j g → P s → P (close g s))
    (raises : (s : State) (c j : ℕ) → CanBranch round s c j → P s → P (raise c j s)) where
  mutual
    pub along : (a : Skeleton) (s t : State) (held : Held) → IsSkeleton a p round s → P s → Holds a round s t held → P t
    along (waits n) s t held is h k = absurd k
    along (proved n tree) s t held is h k = subst P (sym k.0) h
    along (split n county limit parts raised) s t held is h (inl k) = subst P (sym k.0) h
    along (split n county limit parts raised) s t held is h (inr (inl k)) = along_in parts s county (limit_of round limit) t held is.1 (λ g i. (is.2.each g).0 (contains_from_has (groups_in parts) g i)) is.3 h k
    along (split n county limit parts raised) s t held is h (inr (inr k)) = along raised (raise county (limit_of round limit) s) t held is.4 (raises s county (limit_of round limit) is.1 h) k

    pub along_in : (parts : Parts) (s : State) (c j : ℕ) (t : State) (held : Held) → CanBranch round s c j → ((g : List ℕ) → Has (groups_in parts) g → IsGroupAt p round s c j g) → EachIsSkeleton parts p round s → P s → EachHolds parts round s t held → P t
    along_in no_part s c j t held can from is h k = absurd k
    along_in (part codes skeleton others) s c j t held can from is h (inl k) = along skeleton (close codes s) t held is.0 (closes s c j codes can (from codes (inl refl)) h) k
    along_in (part codes skeleton others) s c j t held can from is h (inr k) = along_in others s c j t held can (λ g i. from g (inr i)) is.1 h k

-- states, and no more steps left than here
abbrev Later : Problem → Round → ℕ → State → Type 0
Later p round n s = IsState p round s × (steps_left p round.limit s ≤ n)

later_closed : (p : Problem) (round : Round) (n : ℕ) (s : State) (c j : ℕ) (g : List ℕ) → CanBranch round s c j → IsGroupAt p round s c j g → Later p round n s → Later p round n (close g s)
later_closed p round n s c j g can group h = ((branch_keeps_state).closed_state p round s g h.0 group.fits (omega (arith, group.small, can.small)), omega (arith, h.1, (branch_keeps_state).closed_fewer p round s c j g can group))

later_raised : (p : Problem) (round : Round) (n : ℕ) (s : State) (c j : ℕ) → CanBranch round s c j → Later p round n s → Later p round n (raise c j s)
later_raised p round n s c j can h = ((branch_keeps_state).raised_state p round s c j h.0 can, omega (arith, h.1, (branch_keeps_state).raised_fewer p round s c j h.0 can))

-- the group stays closed
abbrev Closed : List ℕ → State → Type 0
Closed g s = Has s.closed g

-- the county lies in a group of more than j, or is to lie in one
abbrev Guarded : ℕ → ℕ → State → Type 0
Guarded c j s = ((s.rest c ≡ true) × (j < s.least c)) ⊎ ((k : List ℕ) × Has s.closed k × (contains k c ≡ true) × (j < length k))

guarded_closed : (p : Problem) (round : Round) (c j : ℕ) (s : State) (d i : ℕ) (g : List ℕ) → CanBranch round s d i → IsGroupAt p round s d i g → Guarded c j s → Guarded c j (close g s)
guarded_closed p round c j s d i g can group (inr h) = inr (h.0, has_left s.closed (g ∷ []) h.0 h.1, h.2, h.3)
guarded_closed p round c j s d i g can group (inl h) = go (contains g c) refl
  where
    go : (b : Bool) → contains g c ≡ b → Guarded c j (close g s)
    go true e = inr (g, has_right s.closed (g ∷ []) g (inl refl), e, omega (arith, h.1, open_least s (length g) c (group.fits.inside c e)))
    go false e = inl (rw (h.0, e) refl, rw e h.1)

guarded_raised : (round : Round) (c j : ℕ) (s : State) (d i : ℕ) → CanBranch round s d i → Guarded c j s → Guarded c j (raise d i s)
guarded_raised round c j s d i can (inr h) = inr h
guarded_raised round c j s d i can (inl h) = inl (h.0, go (c == d) refl)
  where
    go : (b : Bool) → (c == d) ≡ b → j < cond b (i + 1) (s.least c)
    go true e = omega (arith, h.1, open_least s i d can.is_open, ap s.least (eqb-true c d e))
    go false e = h.1

-- two closed groups with a county in common are one
stands_some : (c : ℕ) (sets : List (List ℕ)) (g : List ℕ) → Has sets g → contains g c ≡ true → 1 ≤ count_in c sets
stands_some c [] g h m = absurd h
stands_some c (x ∷ sets) g (inl e) m = omega (arith, often_some c x (ap (λ z. contains z c) e ∙ m))
stands_some c (x ∷ sets) g (inr h) m = omega (arith, stands_some c sets g h m)

stands_two : (c : ℕ) (sets : List (List ℕ)) (g h : List ℕ) → Has sets g → Has sets h → contains g c ≡ true → contains h c ≡ true → count_in c sets ≤ 1 → g ≡ h
stands_two c [] g h a b m n few = absurd a
stands_two c (x ∷ sets) g h (inl a) (inl b) m n few = sym a ∙ b
stands_two c (x ∷ sets) g h (inl a) (inr b) m n few = absurd (omega (arith, few, often_some c x (ap (λ z. contains z c) a ∙ m), stands_some c sets h b n))
stands_two c (x ∷ sets) g h (inr a) (inl b) m n few = absurd (omega (arith, few, often_some c x (ap (λ z. contains z c) b ∙ n), stands_some c sets g a m))
stands_two c (x ∷ sets) g h (inr a) (inr b) m n few = stands_two c sets g h a b m n (omega (arith, few))

at_most_one : (b : Bool) → indicator b ≤ 1
at_most_one true = omega arith
at_most_one false = omega arith

-- no group stands before itself
lesser_not : (xs : List ℕ) → IsLesser xs xs → ⊥
lesser_not [] h = h
lesser_not (x ∷ xs) (inl l) = omega arith
lesser_not (x ∷ xs) (inr r) = lesser_not xs r.1

before_not : (order g : List ℕ) → IsBefore order g g → ⊥
before_not order g (inl l) = omega arith
before_not order g (inr r) = lesser_not (map (place order) g) r.1

module _ (p : Problem) (round : Round) where
  groups_from : (s : State) (c j : ℕ) (parts : Parts) → AreGroupsAt p round s c j (groups_in parts) → (g : List ℕ) → Has (groups_in parts) g → IsGroupAt p round s c j g
  groups_from s c j parts are g h = (are.each g).0 (contains_from_has (groups_in parts) g h)

  state_there : (a : Skeleton) (s t : State) (held : Held) → IsSkeleton a p round s → IsState p round s → Holds a round s t held → IsState p round t
  state_there a s t held is state h =
      along p round (IsState p round)
      (λ u c j g can group h. (branch_keeps_state).closed_state p round u g h group.fits (omega (arith, group.small, can.small)))
      (λ u c j can h. (branch_keeps_state).raised_state p round u c j h can)
      a s t held is state h

  few_there : (a : Skeleton) (s t : State) (held : Held) → IsSkeleton a p round s → IsState p round s → Holds a round s t held → steps_left p round.limit t ≤ steps_left p round.limit s
  few_there a s t held is state h =
      (along p round (Later p round (steps_left p round.limit s))
      (λ u c j g can group h. later_closed p round (steps_left p round.limit s) u c j g can group h)
      (λ u c j can h. later_raised p round (steps_left p round.limit s) u c j can h)
      a s t held is (state, omega arith) h).1

  closed_there : (g : List ℕ) (a : Skeleton) (s t : State) (held : Held) → IsSkeleton a p round s → Has s.closed g → Holds a round s t held → Has t.closed g
  closed_there g a s t held is has h = along p round (Closed g) (λ u c j k can group i. has_left u.closed (k ∷ []) g i) (λ u c j can i. i) a s t held is has h

  guarded_there : (c j : ℕ) (a : Skeleton) (s t : State) (held : Held) → IsSkeleton a p round s → Guarded c j s → Holds a round s t held → Guarded c j t
  guarded_there c j a s t held is guard h = along p round (Guarded c j) (λ u d i g can group k. guarded_closed p round c j u d i g can group k) (λ u d i can k. guarded_raised round c j u d i can k) a s t held is guard h

  -- what is held in some part is held where its group is closed
  each_there : (parts : Parts) (s : State) (c j : ℕ) (t : State) (held : Held) → CanBranch round s c j → ((g : List ℕ) → Has (groups_in parts) g → IsGroupAt p round s c j g) → IsState p round s → EachIsSkeleton parts p round s → EachHolds parts round s t held
      → IsState p round t × (steps_left p round.limit t < steps_left p round.limit s) × ((g : List ℕ) × Has (groups_in parts) g × Has t.closed g)
  each_there no_part s c j t held can from state is h = absurd h
  each_there (part codes skeleton others) s c j t held can from state is (inl h) =
      let group = from codes (inl refl) in
      let next = (branch_keeps_state).closed_state p round s codes state group.fits (omega (arith, group.small, can.small)) in (
        state_there skeleton (close codes s) t held is.0 next h,
        omega (arith, few_there skeleton (close codes s) t held is.0 next h, (branch_keeps_state).closed_fewer p round s c j codes can group),
        (codes, inl refl, closed_there codes skeleton (close codes s) t held is.0 (has_right s.closed (codes ∷ []) codes (inl refl)) h),
      )
  each_there (part codes skeleton others) s c j t held can from state is (inr h) =
      let r = each_there others s c j t held can (λ g i. from g (inr i)) state is.1 h in (r.0, r.1, (r.2.0, inr r.2.1, r.2.2))

  raised_there : (raised : Skeleton) (s : State) (c j : ℕ) (t : State) (held : Held) → CanBranch round s c j → IsState p round s → IsSkeleton raised p round (raise c j s) → Holds raised round (raise c j s) t held
      → (steps_left p round.limit t < steps_left p round.limit s) × Guarded c j t
  raised_there raised s c j t held can state is h =
      let next = (branch_keeps_state).raised_state p round s c j state can in (
        omega (arith, few_there raised (raise c j s) t held is next h, (branch_keeps_state).raised_fewer p round s c j state can),
        guarded_there c j raised (raise c j s) t held is (inl (open_rest s j c can.is_open, own_size s c j)) h,
      )
    where
      own_size : (s : State) (c j : ℕ) → j < (raise c j s).least c
      own_size s c j = rw (eq-eqb c c refl) (omega arith)

  -- nothing is held in a part and where the county is raised
  apart : (c j : ℕ) (t : State) (g : List ℕ) → IsState p round t → Has t.closed g → contains g c ≡ true → length g ≤ j → Guarded c j t → ⊥
  apart c j t g state has m small (inl h) = omega (arith, stands_some c t.closed g has m, true_digit (t.rest c) h.0, state.once c, at_most_one (contains p.counties c))
  apart c j t g state has m small (inr h) =
      let same = stands_two c t.closed g h.0 has h.1 m h.2 (omega (arith, state.once c, at_most_one (contains p.counties c))) in
      omega (arith, h.3, small, ap length same)

  one_group : (c : ℕ) (t : State) (g h : List ℕ) → IsState p round t → Has t.closed g → Has t.closed h → contains g c ≡ true → contains h c ≡ true → g ≡ h
  one_group c t g h state a b m n = stands_two c t.closed g h a b m n (omega (arith, state.once c, at_most_one (contains p.counties c)))

  -- what is held in the parts of one is held in those of the other
  only_parts : (n : Option ℕ) (c : ℕ) (l : Option ℕ) (ps qs : Parts) (v : Skeleton) (s t : State) (held : Held) → CanBranch round s c (limit_of round l) → ((g : List ℕ) → Has (groups_in ps) g → IsGroupAt p round s c (limit_of round l) g)
      → IsState p round s → EachIsSkeleton ps p round s → IsSkeleton v p round (raise c (limit_of round l) s) → EachHolds ps round s t held → Holds (split n c l qs v) round s t held → EachHolds qs round s t held
  only_parts n c l ps qs v s t held can from state is js h (inl k) =
      let r = each_there ps s c (limit_of round l) t held can from state is h in absurd (omega (arith, r.1, ap (steps_left p round.limit) k.0))
  only_parts n c l ps qs v s t held can from state is js h (inr (inl k)) = k
  only_parts n c l ps qs v s t held can from state is js h (inr (inr k)) =
      let r = each_there ps s c (limit_of round l) t held can from state is h in
      let group = from r.2.0 r.2.1 in
      absurd (apart c (limit_of round l) t r.2.0 r.0 r.2.2 group.has group.small (raised_there v s c (limit_of round l) t held can state js k).1)

  only_raised : (n : Option ℕ) (c : ℕ) (l : Option ℕ) (qs : Parts) (r v : Skeleton) (s t : State) (held : Held) → CanBranch round s c (limit_of round l) → ((g : List ℕ) → Has (groups_in qs) g → IsGroupAt p round s c (limit_of round l) g)
      → IsState p round s → EachIsSkeleton qs p round s → IsSkeleton r p round (raise c (limit_of round l) s) → Holds r round (raise c (limit_of round l) s) t held → Holds (split n c l qs v) round s t held → Holds v round (raise c (limit_of round l) s) t held
  only_raised n c l qs r v s t held can from state is js h (inl k) = absurd (omega (arith, (raised_there r s c (limit_of round l) t held can state js h).0, ap (steps_left p round.limit) k.0))
  only_raised n c l qs r v s t held can from state is js h (inr (inl k)) =
      let e = each_there qs s c (limit_of round l) t held can from state is k in
      let group = from e.2.0 e.2.1 in
      absurd (apart c (limit_of round l) t e.2.0 e.0 e.2.2 group.has group.small (raised_there r s c (limit_of round l) t held can state js h).1)
  only_raised n c l qs r v s t held can from state is js h (inr (inr k)) = k

  -- a root that was split tells how
  root_split : (n : Option ℕ) (d : ℕ) (k : Option ℕ) (qs : Parts) (v : Skeleton) (s : State) (c : ℕ) (l : Option ℕ) → IsState p round s → IsSkeleton (split n d k qs v) p round s → Holds (split n d k qs v) round s s (a_split c l) → a_split c l ≡ a_split d k
  root_split n d k qs v s c l state is (inl h) = h.1
  root_split n d k qs v s c l state is (inr (inl h)) =
      let r = each_there qs s d (limit_of round k) s (a_split c l) is.1 (groups_from s d (limit_of round k) qs is.2) state is.3 h in absurd (omega (arith, r.1))
  root_split n d k qs v s c l state is (inr (inr h)) = absurd (omega (arith, (raised_there v s d (limit_of round k) s (a_split c l) is.1 state is.4 h).0))

  -- what is held under the first group is held under no other
  only_first : (x : List ℕ) (a : Skeleton) (s : State) (c j : ℕ) (t : State) (held other : Held) (others : Parts) → CanBranch round s c j → IsGroupAt p round s c j x → ((g : List ℕ) → Has (groups_in others) g → IsGroupAt p round s c j g) → IsState p round s
      → IsSkeleton a p round (close x s) → EachIsSkeleton others p round s → ((g : List ℕ) → Has (groups_in others) g → IsBefore round.order x g) → Holds a round (close x s) t held → EachHolds others round s t other → ⊥
  only_first x a s c j t held other others can group from state is js first h k =
      let e = each_there others s c j t other can from state js k in
      let here = closed_there x a (close x s) t held is (has_right s.closed (x ∷ []) x (inl refl)) h in
      let same = one_group c t x e.2.0 e.0 here e.2.2 group.has (from e.2.0 e.2.1).has in
      before_not round.order x (subst (IsBefore round.order x) (sym same) (first e.2.0 e.2.1))

  mutual
    same : (a b : Skeleton) (s : State) → IsState p round s → IsSkeleton a p round s → IsSkeleton b p round s → ((t : State) (held : Held) → Holds a round s t held → Holds b round s t held) → ((t : State) (held : Held) → Holds b round s t held → Holds a round s t held) → bare a ≡ bare b
    same (waits m) (waits n) s state is js f g = refl
    same (waits m) (proved n tree) s state is js f g = absurd (g s (a_tree tree) (refl, refl))
    same (waits m) (split n c l ps r) s state is js f g = absurd (g s (a_split c l) (inl (refl, refl)))
    same (proved m tree) (waits n) s state is js f g = absurd (f s (a_tree tree) (refl, refl))
    same (proved m tree) (proved n other) s state is js f g = let e = (f s (a_tree tree) (refl, refl)).1 in let k : tree ≡ other = cc in ap (proved None) k
    same (proved m tree) (split n c l ps r) s state is js f g = let e = (g s (a_split c l) (inl (refl, refl))).1 in absurd (cc)
    same (split n c l ps r) (waits m) s state is js f g = absurd (f s (a_split c l) (inl (refl, refl)))
    same (split n c l ps r) (proved m tree) s state is js f g = let e = (f s (a_split c l) (inl (refl, refl))).1 in absurd (cc)
    same (split n c l ps r) (split m d k qs v) s state is js f g =
        let e = root_split m d k qs v s c l state js (f s (a_split c l) (inl (refl, refl))) in
        let counties : c ≡ d = cc in
        let limits : l ≡ k = cc in
        subst
        (λ z. IsSkeleton (split m z k qs v) p round s → ((t : State) (held : Held) → Holds (split n c l ps r) round s t held → Holds (split m z k qs v) round s t held)
        → ((t : State) (held : Held) → Holds (split m z k qs v) round s t held → Holds (split n c l ps r) round s t held) → bare (split n c l ps r) ≡ bare (split m z k qs v))
        counties
        (subst
        (λ z. IsSkeleton (split m c z qs v) p round s → ((t : State) (held : Held) → Holds (split n c l ps r) round s t held → Holds (split m c z qs v) round s t held)
        → ((t : State) (held : Held) → Holds (split m c z qs v) round s t held → Holds (split n c l ps r) round s t held) → bare (split n c l ps r) ≡ bare (split m c z qs v))
        limits
        (λ ks f g.
        let mine = groups_from s c (limit_of round l) ps is.2 in
        let yours = groups_from s c (limit_of round l) qs ks.2 in
        ap (λ z. split None c l z (bare r))
        (same_parts ps qs s c (limit_of round l) is.1 mine yours state is.3 ks.3 ((leaves_are_decided).groups_at p round s c (limit_of round l) (groups_in ps) (groups_in qs) is.2 ks.2) is.2.sorted
        (λ t held h. only_parts m c l ps qs v s t held is.1 mine state is.3 ks.4 h (f t held (inr (inl h))))
        (λ t held h. only_parts n c l qs ps r s t held is.1 yours state ks.3 is.4 h (g t held (inr (inl h)))))
        ∙ ap (split None c l (bare_parts qs))
        (same r v (raise c (limit_of round l) s) ((branch_keeps_state).raised_state p round s c (limit_of round l) state is.1) is.4 ks.4
        (λ t held h. only_raised m c l qs r v s t held is.1 yours state ks.3 is.4 h (f t held (inr (inr h))))
        (λ t held h. only_raised n c l ps v r s t held is.1 mine state is.3 ks.4 h (g t held (inr (inr h)))))))
        js f g

    same_parts : (ps qs : Parts) (s : State) (c j : ℕ) → CanBranch round s c j → ((g : List ℕ) → Has (groups_in ps) g → IsGroupAt p round s c j g) → ((g : List ℕ) → Has (groups_in qs) g → IsGroupAt p round s c j g) → IsState p round s
        → EachIsSkeleton ps p round s → EachIsSkeleton qs p round s → groups_in ps ≡ groups_in qs → AllPairs (IsBefore round.order) (groups_in ps)
        → ((t : State) (held : Held) → EachHolds ps round s t held → EachHolds qs round s t held) → ((t : State) (held : Held) → EachHolds qs round s t held → EachHolds ps round s t held) → bare_parts ps ≡ bare_parts qs
    same_parts no_part no_part s c j can mine yours state is js e sorted f g = refl
    same_parts no_part (part y b others) s c j can mine yours state is js e sorted f g = absurd (cc)
    same_parts (part x a more) no_part s c j can mine yours state is js e sorted f g = absurd (cc)
    same_parts (part x a more) (part y b others) s c j can mine yours state is js e sorted f g =
        let first : x ≡ y = cc in
        let rest : groups_in more ≡ groups_in others = cc in
        let group = mine x (inl refl) in
        let back : IsSkeleton b p round (close x s) = subst (λ z. IsSkeleton b p round (close z s)) (sym first) js.0 in
        let ahead : ((g : List ℕ) → Has (groups_in more) g → IsBefore round.order x g) = (λ g h. head_before (IsBefore round.order) x (groups_in more) sorted g h) in
        let ahead_too : ((g : List ℕ) → Has (groups_in others) g → IsBefore round.order x g) = (λ g h. ahead g (subst (λ (z : List (List ℕ)). Has z g) (sym rest) h)) in
        let mine_more : ((g : List ℕ) → Has (groups_in more) g → IsGroupAt p round s c j g) = (λ g h. mine g (inr h)) in
        let yours_more : ((g : List ℕ) → Has (groups_in others) g → IsGroupAt p round s c j g) = (λ g h. yours g (inr h)) in
        let here : ((t : State) (held : Held) → Holds b round (close y s) t held → Holds b round (close x s) t held) = (λ t held h. subst (λ z. Holds b round (close z s) t held) (sym first) h) in
        ap (λ z. part z (bare a) (bare_parts more)) first
        ∙ ap (λ z. part y z (bare_parts more))
        (same a b (close x s) ((branch_keeps_state).closed_state p round s x state group.fits (omega (arith, group.small, can.small))) is.0 back
        (λ t held h. ⊎_elim (λ k. here t held k) (λ k. absurd (only_first x a s c j t held held others can group yours_more state is.0 js.1 ahead_too h k)) (f t held (inl h)))
        (λ t held h. ⊎_elim (λ k. k) (λ k. absurd (only_first x b s c j t held held more can group mine_more state back is.1 ahead h k)) (g t held (inl (subst (λ z. Holds b round (close z s) t held) first h)))))
        ∙ ap (part y (bare b))
        (same_parts more others s c j can mine_more yours_more state is.1 js.1 rest (tail_pairs (IsBefore round.order) x (groups_in more) sorted)
        (λ t held h. ⊎_elim (λ k. absurd (only_first x b s c j t held held more can group mine_more state back is.1 ahead (here t held k) h)) (λ k. k) (f t held (inr h)))
        (λ t held h. ⊎_elim (λ k. absurd (only_first x a s c j t held held others can group yours_more state is.0 js.1 ahead_too k h)) (λ k. k) (g t held (inr h))))

pub same_is_joined : SameIsJoined
same_is_joined = record {
  by_form = bare_joined;
  form = λ p round s a b state is js h. same p round a b s state is js (λ t held. (h t held).0) (λ t held. (h t held).1);
  boards = λ p b c is js round h. boards_same p b c is js round h;
}
  where
    boards_same : (p : Problem) (b c : Content) → IsContent p b → IsContent p c → b.round ≡ c.round
        → ((t : State) (held : Held) → Holds b.skeleton b.round (empty_state p) t held ↔ Holds c.skeleton c.round (empty_state p) t held) → joined b.skeleton ≡ joined c.skeleton
    boards_same p b c is js round h =
        let moved : IsSkeleton c.skeleton p b.round (empty_state p) = subst (λ z. IsSkeleton c.skeleton p z (empty_state p)) (sym round) js.skeleton in
        bare_joined b.skeleton c.skeleton
        (same p b.round b.skeleton c.skeleton (empty_state p) ((branch_keeps_state).first_state p b.round) is.skeleton moved
        (λ t held k. subst (λ z. Holds c.skeleton z (empty_state p) t held) (sym round) ((h t held).0 k))
        (λ t held k. (h t held).1 (subst (λ z. Holds c.skeleton z (empty_state p) t held) round k)))
