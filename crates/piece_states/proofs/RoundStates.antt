-- A state that is told, and that is one of a round by its groups and what is asked.
use Rattle.std.proofs.Common.{◌≡◌, ℕ, ◌+◌, ◌-◌, Bool, true, false, cond, List, [], ◌∷◌, ◌==◌, refl, sym, ap, ◌∙◌, subst, arith, Option, Some, None, IfSome}
use Rattle.std.proofs.lemmas.Bool.{eqb-true, false≢true}
use Rattle.grouping_laws.specs.Problem.{Problem}
use Rattle.certificate_data.specs.Round.{Round}
use Rattle.certificate_laws.specs.State.{State, IsState, IsLeastSize, empty_state, close, raise}
use Rattle.certificate_laws.proofs.Branches.{branch_keeps_state}
use Rattle.piece_states.specs.Told.{Asked, close_all, raise_all}
use Rattle.piece_states.specs.RoundStates.{CanAsk, EachCanClose, EachCanAsk}

closed_is_state : (p : Problem) (order : List ℕ) (round : Round) (gs : List (List ℕ)) (s : State) → IsState p round s → EachCanClose p order round gs s → IsState p round (close_all gs s)
closed_is_state p order round [] s state can = state
closed_is_state p order round (g ∷ gs) s state can = closed_is_state p order round gs (close g s) ((branch_keeps_state).closed_state p round s g state can.0.fits can.0.small) can.1

raised_is_state : (p : Problem) (round : Round) (a : Asked) (s : State) → IsState p round s → CanAsk round s a → IsState p round (raise a.county (a.size - 1) s)
raised_is_state p round a s state can = record {
  once = state.once;
  lawful = state.lawful;
  small = state.small;
  sizes = λ c. size c (c == a.county);
  settled = λ c e. settle c e (c == a.county) refl;
}
  where
    size : (c : ℕ) (b : Bool) → IsLeastSize round.format round.limit (cond b (a.size - 1 + 1) (s.least c))
    size c true = subst (IsLeastSize round.format round.limit) same can.size
      where
        same : a.size ≡ a.size - 1 + 1
        same = omega (arith, can.some)
    size c false = state.sizes c

    settle : (c : ℕ) → s.rest c ≡ false → (b : Bool) → (c == a.county) ≡ b → cond b (a.size - 1 + 1) (s.least c) ≡ 0
    settle c e true k = absurd (false≢true (sym e ∙ (ap s.rest (eqb-true c a.county k) ∙ can.rest)))
    settle c e false k = state.settled c e

asked_is_state : (p : Problem) (round : Round) (asked : List Asked) (s : State) → IsState p round s → EachCanAsk round asked s → IsState p round (raise_all asked s)
asked_is_state p round [] s state can = state
asked_is_state p round (a ∷ asked) s state can = asked_is_state p round asked (raise a.county (a.size - 1) s) (raised_is_state p round a s state can.0) can.1

-- the first state, that where the groups are closed, and that where the counties are raised
pub steps_lead : (p : Problem) (order : List ℕ) (round : Round) (groups : List (List ℕ)) (asked : List Asked) (first closed last : State) → first ≡ empty_state p
    → closed ≡ close_all groups first → EachCanClose p order round groups first → last ≡ raise_all asked closed → EachCanAsk round asked closed → IsState p round last
steps_lead p order round groups asked first closed last begins closes can_close raises can_ask =
    subst (IsState p round) (sym raises)
    (asked_is_state p round asked closed
    (subst (IsState p round) (sym closes)
    (closed_is_state p order round groups first (subst (IsState p round) (sym begins) ((branch_keeps_state).first_state p round)) can_close))
    can_ask)

-- what follows of a value from two facts
pub some_both : {X : Type 0} (found : Option X) (P Q R : X → Type 0) → IfSome found P → IfSome found Q → ((x : X) → P x → Q x → R x) → IfSome found R
some_both None P Q R a b go = tt
some_both (Some x) P Q R a b go = go x a b
