-- What is told of a state leads back to it.
use Rattle.std.proofs.Common.{◌≡◌, ℕ, ◌+◌, ◌-◌, ◌≤◌, Bool, true, false, cond, not, ◌&&◌, ◌||◌, ◌==◌, List, [], ◌∷◌, ◌++◌, refl, sym, ap, ◌∙◌, subst, arith, if◌then◌else◌, append_assoc, append-nil, ◌⊎◌, inl, inr}
use Rattle.std.specs.Prelude.{nat_lt}
use Rattle.std.proofs.lemmas.Bool.{lt-ltb, eqb-true, eq-eqb, false≢true}
use Rattle.grouping_laws.specs.Sets.{indicator, count_in, contains}
use Rattle.grouping_laws.specs.Problem.{Problem}
use Rattle.grouping_laws.specs.GroupsFrom.{IsOrder}
use Rattle.place_sets.proofs.Sums.{often_none, often_some, member_from_often}
use Rattle.certificate_data.specs.Round.{Round}
use Rattle.certificate_laws.specs.State.{State, IsState, empty_state, close, raise}
use Rattle.certificate_laws.proofs.States.{same_state}
use Rattle.piece_states.specs.Told.{Asked, asked_by, told_of, close_all, raise_all, state_told}
use Rattle.piece_states.specs.Laws.{StatesAreTold}

-- the closed groups stand behind those that were closed before
closed_behind : (gs : List (List ℕ)) (s : State) → (close_all gs s).closed ≡ s.closed ++ gs
closed_behind [] s = sym (append-nil s.closed)
closed_behind (g ∷ gs) s = closed_behind gs (close g s) ∙ append_assoc s.closed (g ∷ []) gs

-- a county that no group has stays as it is
rest_stays : (c : ℕ) (gs : List (List ℕ)) (s : State) → count_in c gs ≡ 0 → (close_all gs s).rest c ≡ s.rest c
rest_stays c [] s none = refl
rest_stays c (g ∷ gs) s none = rest_stays c gs (close g s) (omega arith) ∙ out (contains g c) refl
  where
    out : (b : Bool) → contains g c ≡ b → (s.rest c && not b) ≡ s.rest c
    out true e = absurd (omega (arith, often_some c g e))
    out false e = go (s.rest c)
      where
        go : (r : Bool) → (r && true) ≡ r
        go true = refl
        go false = refl

-- a county outside the rest stays outside
rest_out : (c : ℕ) (gs : List (List ℕ)) (s : State) → s.rest c ≡ false → (close_all gs s).rest c ≡ false
rest_out c [] s out = out
rest_out c (g ∷ gs) s out = rest_out c gs (close g s) (ap (λ b. b && not (contains g c)) out)

-- a county of a group is closed
rest_left : (c : ℕ) (gs : List (List ℕ)) (s : State) → 1 ≤ count_in c gs → (close_all gs s).rest c ≡ false
rest_left c [] s some = absurd (omega arith)
rest_left c (g ∷ gs) s some = go (rest_left c gs (close g s)) (contains g c) refl
  where
    no : (r : Bool) → (r && false) ≡ false
    no true = refl
    no false = refl

    go : (1 ≤ count_in c gs → (close_all gs (close g s)).rest c ≡ false) → (b : Bool) → contains g c ≡ b → (close_all gs (close g s)).rest c ≡ false
    go left true e = rest_out c gs (close g s) (ap (λ b. s.rest c && not b) e ∙ no (s.rest c))
    go left false e = left (omega (arith, often_none c g e))

-- where nothing is asked, closing asks for nothing
least_none : (c : ℕ) (gs : List (List ℕ)) (s : State) → s.least c ≡ 0 → (close_all gs s).least c ≡ 0
least_none c [] s none = none
least_none c (g ∷ gs) s none = least_none c gs (close g s) (go (contains g c))
  where
    go : (b : Bool) → cond b 0 (s.least c) ≡ 0
    go true = refl
    go false = none

-- raising changes only what is asked
raise_keeps_closed : (asked : List Asked) (s : State) → (raise_all asked s).closed ≡ s.closed
raise_keeps_closed [] s = refl
raise_keeps_closed (a ∷ asked) s = raise_keeps_closed asked (raise a.county (a.size - 1) s)

raise_keeps_rest : (asked : List Asked) (s : State) (c : ℕ) → (raise_all asked s).rest c ≡ s.rest c
raise_keeps_rest [] s c = refl
raise_keeps_rest (a ∷ asked) s c = raise_keeps_rest asked (raise a.county (a.size - 1) s) c

module _ (s : State) (c : ℕ) where
  asks : (n : ℕ) → nat_lt 0 n ≡ true → 1 ≤ n
  asks n e = grind arith

  both : (a b : Bool) → (a && b) ≡ true → (a ≡ true) × (b ≡ true)
  both true true e = (refl, refl)
  both true false e = absurd (false≢true e)
  both false b e = absurd (false≢true e)

  -- the county x is raised to its own size
  abbrev raised_to : ℕ → State → State
  raised_to x t = raise x (s.least x - 1) t

  -- where x is the county, that is its size; else its size stays
  raised_there : (t : State) (x : ℕ) → nat_lt 0 (s.least x) ≡ true → (b : Bool) → (c == x) ≡ b → (b ≡ false → t.least c ≡ s.least c) → (raised_to x t).least c ≡ s.least c
  raised_there t x some true e other =
      ap (λ b. cond b (s.least x - 1 + 1) (t.least c)) e
      ∙ (same (asks (s.least x) some) ∙ ap s.least (sym (eqb-true c x e)))
    where
      same : 1 ≤ s.least x → s.least x - 1 + 1 ≡ s.least x
      same l = omega arith
  raised_there t x some false e other = ap (λ b. cond b (s.least x - 1 + 1) (t.least c)) e ∙ other refl

  -- a size that is reached stays
  least_stays : (cs : List ℕ) (t : State) → t.least c ≡ s.least c → (raise_all (asked_by cs s) t).least c ≡ s.least c
  least_stays [] t same = same
  least_stays (x ∷ cs) t same = go (least_stays cs) (s.rest x && nat_lt 0 (s.least x)) refl
    where
      go : ((u : State) → u.least c ≡ s.least c → (raise_all (asked_by cs s) u).least c ≡ s.least c) → (b : Bool) → (s.rest x && nat_lt 0 (s.least x)) ≡ b
          → (raise_all (if b then record { county = x; size = s.least x } ∷ asked_by cs s else asked_by cs s) t).least c ≡ s.least c
      go stays true e = stays (raised_to x t) (raised_there t x (both (s.rest x) (nat_lt 0 (s.least x)) e).1 (c == x) refl (λ no. same))
      go stays false e = stays t same

  -- a county of the rest that asks is raised to its size
  least_reached : (cs : List ℕ) (t : State) → contains cs c ≡ true → s.rest c ≡ true → nat_lt 0 (s.least c) ≡ true → (raise_all (asked_by cs s) t).least c ≡ s.least c
  least_reached [] t h rest some = absurd (false≢true h)
  least_reached (x ∷ cs) t h rest some = go (λ u k. least_reached cs u k rest some) (x == c) refl h
    where
      Reached : State → Type 0
      Reached u = (raise_all (asked_by cs s) u).least c ≡ s.least c

      here : (b : Bool) → b ≡ true → (raise_all (if b then record { county = c; size = s.least c } ∷ asked_by cs s else asked_by cs s) t).least c ≡ s.least c
      here true e = least_stays cs (raised_to c t) (raised_there t c some true (eq-eqb c c refl) (λ no. absurd (false≢true (sym no))))
      here false e = absurd (false≢true e)

      later : ((u : State) → Reached u) → (b : Bool) → (raise_all (if b then record { county = x; size = s.least x } ∷ asked_by cs s else asked_by cs s) t).least c ≡ s.least c
      later reached true = reached (raised_to x t)
      later reached false = reached t

      go : ((u : State) → contains cs c ≡ true → Reached u) → (b : Bool) → (x == c) ≡ b → (b || contains cs c) ≡ true → (raise_all (asked_by (x ∷ cs) s) t).least c ≡ s.least c
      go reached true e k = subst (λ z. (raise_all (asked_by (z ∷ cs) s) t).least c ≡ s.least c) (sym (eqb-true x c e)) (here (s.rest c && nat_lt 0 (s.least c)) (ap (λ b. b && nat_lt 0 (s.least c)) rest ∙ some))
      go reached false e k = later (λ u. reached u k) (s.rest x && nat_lt 0 (s.least x))

-- where the closed groups of a state are closed, and nothing is asked
pub closed_first : (p : Problem) (round : Round) (s : State) → IsState p round s → close_all s.closed (empty_state p) ≡ record { closed = s.closed; rest = s.rest; least = λ c. 0 }
closed_first p round s state = same_state (close_all s.closed (empty_state p)) (record { closed = s.closed; rest = s.rest; least = λ c. 0 })
    (closed_behind s.closed (empty_state p)) (λ c. go c (s.rest c) refl (contains p.counties c) refl) (λ c. least_none c s.closed (empty_state p) refl)
  where
    go : (c : ℕ) (a : Bool) → s.rest c ≡ a → (b : Bool) → contains p.counties c ≡ b → (close_all s.closed (empty_state p)).rest c ≡ s.rest c
    go c true e true k = rest_stays c s.closed (empty_state p) (omega (arith, state.once c, ap indicator e, ap indicator k)) ∙ (k ∙ sym e)
    go c true e false k = absurd (omega (arith, state.once c, ap indicator e, ap indicator k))
    go c false e true k = rest_left c s.closed (empty_state p) (omega (arith, state.once c, ap indicator e, ap indicator k)) ∙ sym e
    go c false e false k = rest_out c s.closed (empty_state p) k ∙ sym e

states_are_told_at : (p : Problem) (round : Round) (s : State) → IsOrder p round.order → IsState p round s → state_told p (told_of round.order s) ≡ s
states_are_told_at p round s order state =
    ap (raise_all (asked_by round.order s)) (closed_first p round s state)
    ∙ same_state (raise_all (asked_by round.order s) first) s (raise_keeps_closed (asked_by round.order s) first) (raise_keeps_rest (asked_by round.order s) first) least
  where
    first : State
    first = record { closed = s.closed; rest = s.rest; least = λ c. 0 }

    least : (c : ℕ) → (raise_all (asked_by round.order s) first).least c ≡ s.least c
    least c = go (s.rest c) refl (cases (s.least c))
      where
        cases : (n : ℕ) → (n ≡ 0) ⊎ (1 ≤ n)
        cases n = grind arith

        stays : s.least c ≡ 0 → (raise_all (asked_by round.order s) first).least c ≡ s.least c
        stays none = least_stays s c round.order first (sym none)

        listed : s.rest c ≡ true → contains round.order c ≡ true
        listed e = by_counties (contains p.counties c) refl
          where
            by_counties : (b : Bool) → contains p.counties c ≡ b → contains round.order c ≡ true
            by_counties true k = member_from_often c round.order (omega (arith, order c, ap indicator k))
            by_counties false k = absurd (omega (arith, state.once c, ap indicator e, ap indicator k))

        go : (b : Bool) → s.rest c ≡ b → (s.least c ≡ 0) ⊎ (1 ≤ s.least c) → (raise_all (asked_by round.order s) first).least c ≡ s.least c
        go true e (inl none) = stays none
        go true e (inr some) = least_reached s c round.order first (listed e) e (lt-ltb 0 (s.least c) some)
        go false e h = stays (state.settled c e)

pub states_are_told : StatesAreTold
states_are_told = states_are_told_at
