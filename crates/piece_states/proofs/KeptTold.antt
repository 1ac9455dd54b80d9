-- What is told of the states to which branches lead is a state of the round.
use Rattle.std.proofs.Common.{◌≡◌, ℕ, ◌-◌, ◌≤◌, ◌&&◌, if◌then◌else◌, Bool, true, false, List, [], ◌∷◌, ◌++◌, length, refl, sym, ap, ◌∙◌, subst, arith, inl, inr}
use Rattle.std.specs.Prelude.{nat_lt, nat_le}
use Rattle.std.proofs.lemmas.Bool.{and_parts}
use Rattle.grouping_laws.specs.Problem.{Problem}
use Rattle.certificate_data.specs.declared.format.Format.{Format}
use Rattle.certificate_data.specs.declared.format.Format.TheVariants.{Plain, Wide}
use Rattle.certificate_data.specs.Round.{Round}
use Rattle.certificate_laws.specs.State.{State, IsState, empty_state, close, raise}
use Rattle.certificate_laws.specs.StuckParts.{CannotFill}
use Rattle.certificate_laws.specs.Fitting.{Fits, IsKept}
use Rattle.certificate_laws.proofs.Branches.{branch_keeps_state}
use Rattle.certificate_laws.proofs.Completion.{open_rest}
use Rattle.piece_states.specs.Told.{asked_by, told_of, close_all}
use Rattle.piece_states.specs.RoundStates.{CanClose, EachCanClose, EachCanAsk, IsTold}
use Rattle.piece_states.specs.Laws.{BranchesKeepTold}
use Rattle.piece_states.proofs.ToldStates.{closed_first}

-- the state where nothing is asked
abbrev bare : State → State
bare s = record { closed = s.closed; rest = s.rest; least = λ c. 0 }

-- what fits where something is asked fits where nothing is
fits_bare : (format : Format) (p : Problem) (s : State) (g : List ℕ) → Fits format p s g → Fits format p (bare s) g
fits_bare format p s g fits = record {
  lawful = fits.lawful;
  inside = λ c e. ap (λ b. b && nat_le 0 (length g)) (open_rest s (length g) c (fits.inside c e)) ∙ least (length g);
  kept = kept format fits.kept;
}
  where
    least : (n : ℕ) → nat_le 0 n ≡ true
    least n = grind arith

    stuck : (part : List ℕ) → CannotFill p (bare s) part → CannotFill p s part
    stuck part (inl none) = inl none
    stuck part (inr larger) = absurd (omega (arith, larger.2))

    kept : (f : Format) → IsKept f p s g → IsKept f p (bare s) g
    kept Plain k = tt
    kept Wide k = λ dead. k (record { part = dead.part; is_part = dead.is_part; stuck = stuck dead.part dead.stuck })

-- one more group may be closed
close_more : (p : Problem) (order : List ℕ) (round : Round) (gs : List (List ℕ)) (g : List ℕ) (s : State) → EachCanClose p order round gs s → CanClose p order round (close_all gs s) g → EachCanClose p order round (gs ++ g ∷ []) s
close_more p order round [] g s each can = (can, tt)
close_more p order round (h ∷ gs) g s each can = (each.0, close_more p order round gs g (close h s) each.1 can)

-- what is asked of a state of the round may be asked where its groups are closed
asked_told : (p : Problem) (round : Round) (s : State) → IsState p round s → (cs : List ℕ) (t : State) → ((c : ℕ) → t.rest c ≡ s.rest c) → EachCanAsk round (asked_by cs s) t
asked_told p round s state [] t same = tt
asked_told p round s state (c ∷ cs) t same = go (λ u k. asked_told p round s state cs u k) (s.rest c && nat_lt 0 (s.least c)) refl
  where
    some : (n : ℕ) → nat_lt 0 n ≡ true → 1 ≤ n
    some n e = grind arith

    go : ((u : State) → ((x : ℕ) → u.rest x ≡ s.rest x) → EachCanAsk round (asked_by cs s) u) → (b : Bool) → (s.rest c && nat_lt 0 (s.least c)) ≡ b
        → EachCanAsk round (if b then record { county = c; size = s.least c } ∷ asked_by cs s else asked_by cs s) t
    go later true e =
        let asks = and_parts (s.rest c) (nat_lt 0 (s.least c)) e in (
          record { rest = same c ∙ asks.0; some = some (s.least c) asks.1; size = state.sizes c },
          later (raise c (s.least c - 1) t) same,
        )
    go later false e = later t same

-- what is told of a state of the round may be asked, so its groups decide
told_by_groups : (p : Problem) (round : Round) (s : State) → IsState p round s → EachCanClose p round.order round s.closed (empty_state p) → IsTold p round.order round (told_of round.order s)
told_by_groups p round s state each = record {
  closed = each;
  asked = asked_told p round s state round.order (close_all s.closed (empty_state p)) (λ c. ap (λ (t : State). t.rest c) (closed_first p round s state));
}

pub branches_keep_told : BranchesKeepTold
branches_keep_told = record {
  first = λ p round. told_by_groups p round (empty_state p) ((branch_keeps_state).first_state p round) tt;
  closed = λ p round s c j g state can at told.
      let small : length g ≤ round.limit = omega (arith, at.small, can.small) in
      told_by_groups p round (close g s) ((branch_keeps_state).closed_state p round s g state at.fits small)
      (close_more p round.order round s.closed g (empty_state p) told.closed
      (subst (λ (t : State). CanClose p round.order round t g) (sym (closed_first p round s state)) (record { fits = fits_bare round.format p s g at.fits; in_order = at.in_order; small = small })));
  raised = λ p round s c j state can told. told_by_groups p round (raise c j s) ((branch_keeps_state).raised_state p round s c j state can) told.closed;
}
