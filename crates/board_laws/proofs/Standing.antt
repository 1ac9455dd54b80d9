-- Each number names one state.
use Rattle.std.proofs.Common.{◌≡◌, ℕ, ◌≤◌, List, [], ◌++◌, ◌==◌, refl, sym, ap, ◌∙◌, subst, arith, ◌⊎◌, inl, inr, ⊎_elim, Option, Some, None}
use Rattle.std.proofs.lemmas.Bool.{eq-eqb}
use Rattle.grouping_laws.specs.Sets.{count}
use Rattle.grouping_laws.specs.Problem.{Problem}
use Rattle.grouping_laws.proofs.Digits.{true_digit}
use Rattle.grouping_laws.proofs.Elements.{Has, has_append, contains_from_has}
use Rattle.certificate_data.specs.Round.{Round}
use Rattle.certificate_laws.specs.State.{State, IsState, close, raise}
use Rattle.certificate_laws.specs.Groups.{IsGroupAt}
use Rattle.certificate_laws.specs.Proving.{limit_of, CanBranch}
use Rattle.certificate_laws.proofs.Branches.{branch_keeps_state}
use Rattle.board_laws.specs.Skeleton.{Skeleton, waits, proved, split, Parts, no_part, part, groups_in, onto, pieces, pieces_in, IsSkeleton, EachIsSkeleton}
use Rattle.board_laws.specs.Standing.{StandsAt, StandsIn}
use Rattle.board_laws.proofs.Numbers.{often_append, often_onto, onto_some}

has_onto : (piece : Option ℕ) (xs : List ℕ) (n : ℕ) → Has (onto piece xs) n → (piece ≡ Some n) ⊎ Has xs n
has_onto None xs n h = inr h
has_onto (Some piece) xs n (inl e) = inl (ap Some e)
has_onto (Some piece) xs n (inr h) = inr h

-- what stands somewhere is a piece
mutual
  pub stands_often : (skeleton : Skeleton) (round : Round) (s : State) (n : ℕ) (t : State) → StandsAt skeleton round s n t → 1 ≤ count n (pieces skeleton)
  stands_often (waits piece) round s n t h = omega (arith, true_digit (piece == n) (eq-eqb piece n h.0))
  stands_often (proved piece tree) round s n t h = omega (arith, onto_some n piece [] h.0)
  stands_often (split piece county limit parts raised) round s n t (inl h) = omega (arith, onto_some n piece (pieces_in parts ++ pieces raised) h.0)
  stands_often (split piece county limit parts raised) round s n t (inr (inl h)) =
      omega (arith, often_in parts round s n t h, often_append n (pieces_in parts) (pieces raised), often_onto n piece (pieces_in parts ++ pieces raised))
  stands_often (split piece county limit parts raised) round s n t (inr (inr h)) =
      omega (arith, stands_often raised round (raise county (limit_of round limit) s) n t h, often_append n (pieces_in parts) (pieces raised), often_onto n piece (pieces_in parts ++ pieces raised))

  often_in : (parts : Parts) (round : Round) (s : State) (n : ℕ) (t : State) → StandsIn parts round s n t → 1 ≤ count n (pieces_in parts)
  often_in no_part round s n t h = absurd h
  often_in (part codes skeleton others) round s n t (inl h) = omega (arith, stands_often skeleton round (close codes s) n t h, often_append n (pieces skeleton) (pieces_in others))
  often_in (part codes skeleton others) round s n t (inr h) = omega (arith, often_in others round s n t h, often_append n (pieces skeleton) (pieces_in others))

-- each piece stands somewhere
mutual
  pub stands_there : (skeleton : Skeleton) (round : Round) (s : State) (n : ℕ) → Has (pieces skeleton) n → (t : State) × StandsAt skeleton round s n t
  stands_there (waits piece) round s n (inl e) = (s, (e, refl))
  stands_there (waits piece) round s n (inr h) = absurd h
  stands_there (proved piece tree) round s n h = ⊎_elim (λ e. (s, (e, refl))) (λ k. absurd k) (has_onto piece [] n h)
  stands_there (split piece county limit parts raised) round s n h =
      ⊎_elim
      (λ e. (s, inl (e, refl)))
      (λ k. ⊎_elim
      (λ i. let r = there_in parts round s n i in (r.0, inr (inl r.1)))
      (λ i. let r = stands_there raised round (raise county (limit_of round limit) s) n i in (r.0, inr (inr r.1)))
      (has_append (pieces_in parts) (pieces raised) n k))
      (has_onto piece (pieces_in parts ++ pieces raised) n h)

  there_in : (parts : Parts) (round : Round) (s : State) (n : ℕ) → Has (pieces_in parts) n → (t : State) × StandsIn parts round s n t
  there_in no_part round s n h = absurd h
  there_in (part codes skeleton others) round s n h =
      ⊎_elim
      (λ i. let r = stands_there skeleton round (close codes s) n i in (r.0, inl r.1))
      (λ i. let r = there_in others round s n i in (r.0, inr r.1))
      (has_append (pieces skeleton) (pieces_in others) n h)

-- a number that stands once names one state
mutual
  pub stands_once : (skeleton : Skeleton) (round : Round) (s : State) (n : ℕ) (t u : State) → count n (pieces skeleton) ≤ 1 → StandsAt skeleton round s n t → StandsAt skeleton round s n u → t ≡ u
  stands_once (waits piece) round s n t u few h k = h.1 ∙ sym k.1
  stands_once (proved piece tree) round s n t u few h k = h.1 ∙ sym k.1
  stands_once (split piece county limit parts raised) round s n t u few (inl a) (inl b) = a.1 ∙ sym b.1
  stands_once (split piece county limit parts raised) round s n t u few (inl a) (inr (inl b)) = absurd (omega (arith, few, often_append n (pieces_in parts) (pieces raised), often_onto n piece (pieces_in parts ++ pieces raised), onto_some n piece (pieces_in parts ++ pieces raised) a.0, often_in parts round s n u b))
  stands_once (split piece county limit parts raised) round s n t u few (inl a) (inr (inr b)) = absurd (omega (arith, few, often_append n (pieces_in parts) (pieces raised), often_onto n piece (pieces_in parts ++ pieces raised), onto_some n piece (pieces_in parts ++ pieces raised) a.0, stands_often raised round (raise county (limit_of round limit) s) n u b))
  stands_once (split piece county limit parts raised) round s n t u few (inr (inl a)) (inl b) = absurd (omega (arith, few, often_append n (pieces_in parts) (pieces raised), often_onto n piece (pieces_in parts ++ pieces raised), onto_some n piece (pieces_in parts ++ pieces raised) b.0, often_in parts round s n t a))
  stands_once (split piece county limit parts raised) round s n t u few (inr (inr a)) (inl b) = absurd (omega (arith, few, often_append n (pieces_in parts) (pieces raised), often_onto n piece (pieces_in parts ++ pieces raised), onto_some n piece (pieces_in parts ++ pieces raised) b.0, stands_often raised round (raise county (limit_of round limit) s) n t a))
  stands_once (split piece county limit parts raised) round s n t u few (inr (inl a)) (inr (inl b)) = once_in parts round s n t u (omega (arith, few, often_append n (pieces_in parts) (pieces raised), often_onto n piece (pieces_in parts ++ pieces raised))) a b
  stands_once (split piece county limit parts raised) round s n t u few (inr (inl a)) (inr (inr b)) = absurd (omega (arith, few, often_append n (pieces_in parts) (pieces raised), often_onto n piece (pieces_in parts ++ pieces raised), often_in parts round s n t a, stands_often raised round (raise county (limit_of round limit) s) n u b))
  stands_once (split piece county limit parts raised) round s n t u few (inr (inr a)) (inr (inl b)) = absurd (omega (arith, few, often_append n (pieces_in parts) (pieces raised), often_onto n piece (pieces_in parts ++ pieces raised), often_in parts round s n u b, stands_often raised round (raise county (limit_of round limit) s) n t a))
  stands_once (split piece county limit parts raised) round s n t u few (inr (inr a)) (inr (inr b)) = stands_once raised round (raise county (limit_of round limit) s) n t u (omega (arith, few, often_append n (pieces_in parts) (pieces raised), often_onto n piece (pieces_in parts ++ pieces raised))) a b

  once_in : (parts : Parts) (round : Round) (s : State) (n : ℕ) (t u : State) → count n (pieces_in parts) ≤ 1 → StandsIn parts round s n t → StandsIn parts round s n u → t ≡ u
  once_in no_part round s n t u few h k = absurd h
  once_in (part codes skeleton others) round s n t u few (inl a) (inl b) = stands_once skeleton round (close codes s) n t u (omega (arith, few, often_append n (pieces skeleton) (pieces_in others))) a b
  once_in (part codes skeleton others) round s n t u few (inl a) (inr b) = absurd (omega (arith, few, often_append n (pieces skeleton) (pieces_in others), stands_often skeleton round (close codes s) n t a, often_in others round s n u b))
  once_in (part codes skeleton others) round s n t u few (inr a) (inl b) = absurd (omega (arith, few, often_append n (pieces skeleton) (pieces_in others), stands_often skeleton round (close codes s) n u b, often_in others round s n t a))
  once_in (part codes skeleton others) round s n t u few (inr a) (inr b) = once_in others round s n t u (omega (arith, few, often_append n (pieces skeleton) (pieces_in others))) a b

-- and that is a state of the round
mutual
  pub stands_state : (skeleton : Skeleton) (p : Problem) (round : Round) (s : State) (n : ℕ) (t : State) → IsState p round s → IsSkeleton skeleton p round s → StandsAt skeleton round s n t → IsState p round t
  stands_state (waits piece) p round s n t state is h = subst (IsState p round) (sym h.1) state
  stands_state (proved piece tree) p round s n t state is h = subst (IsState p round) (sym h.1) state
  stands_state (split piece county limit parts raised) p round s n t state is (inl h) = subst (IsState p round) (sym h.1) state
  stands_state (split piece county limit parts raised) p round s n t state is (inr (inl h)) =
      state_in parts p round s county (limit_of round limit) n t is.1 (λ g i. (is.2.each g).0 (contains_from_has (groups_in parts) g i)) state is.3 h
  stands_state (split piece county limit parts raised) p round s n t state is (inr (inr h)) =
      stands_state raised p round (raise county (limit_of round limit) s) n t ((branch_keeps_state).raised_state p round s county (limit_of round limit) state is.1) is.4 h

  state_in : (parts : Parts) (p : Problem) (round : Round) (s : State) (county limit : ℕ) (n : ℕ) (t : State) → CanBranch round s county limit → ((g : List ℕ) → Has (groups_in parts) g → IsGroupAt p round s county limit g)
      → IsState p round s → EachIsSkeleton parts p round s → StandsIn parts round s n t → IsState p round t
  state_in no_part p round s county limit n t can from state is h = absurd h
  state_in (part codes skeleton others) p round s county limit n t can from state is (inl h) =
      let group = from codes (inl refl) in
      stands_state skeleton p round (close codes s) n t ((branch_keeps_state).closed_state p round s codes state group.fits (omega (arith, group.small, can.small))) is.0 h
  state_in (part codes skeleton others) p round s county limit n t can from state is (inr h) = state_in others p round s county limit n t can (λ g i. from g (inr i)) state is.1 h
