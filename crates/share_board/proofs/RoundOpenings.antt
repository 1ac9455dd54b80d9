-- Openings of rounds, and how many pieces they have.
use Rattle.std.proofs.Common.{◌≡◌, ℕ, ◌+◌, ◌-◌, ◌≤◌, ◌<◌, refl, sym, ap, ◌∙◌, subst, arith, ◌⊎◌, inl, inr, ⊎_elim}
use Rattle.std.proofs.lemmas.Bool.{cases_lt}
use Rattle.grouping_laws.specs.Problem.{Problem, IsProblem}
use Rattle.grouping_laws.specs.Grouping.{Grouping}
use Rattle.grouping_laws.specs.GroupsFrom.{IsOrder}
use Rattle.certificate_data.specs.declared.format.Format.{Format}
use Rattle.certificate_data.specs.declared.format.Format.TheVariants.{Plain, Wide}
use Rattle.certificate_data.specs.Round.{Round}
use Rattle.certificate_laws.specs.State.{State, IsState, empty_state}
use Rattle.certificate_laws.proofs.Completion.{rest_listed}
use Rattle.board_laws.specs.Skeleton.{Skeleton, waits, proved, split}
use Rattle.board_laws.specs.Content.{Content, Opens}
use Rattle.share_board.specs.Replies.{most_opening, OpensWithMore}
use Rattle.share_board.specs.BoardValue.{HasDepth}
use Rattle.share_board.specs.Rounds.{MayBegin, IsOpening}
use Rattle.share_board.proofs.OneOpening.{opens_up, opens_one}
use Rattle.share_board.specs.Laws.{GoesTo, AnOpening, RoundsOpen}
use Rattle.share_board.proofs.OneSkeleton.{same_skeleton}
use Rattle.share_board.proofs.SomeOpening.{RestListed, opened}

some_opening : (p : Problem) (round : Round) (depth : ℕ) (s : State) (first : ℕ) → IsProblem p → IsOrder p round.order → GoesTo round depth
    → RestListed p s → AnOpening p round depth s first
some_opening p round depth s first is order (inl plain) known =
    let o = opened p round is order plain depth s first known in
    record { skeleton = o.skeleton; next = o.next; opens = o.opens }
some_opening p round depth s first is order (inr zero) known = record { skeleton = waits first; next = first + 1; opens = (refl, refl, inl zero) }

-- where no branch is, one piece waits
alone : (p : Problem) (round : Round) (depth : ℕ) (skeleton : Skeleton) (s : State) (first next : ℕ) → depth ≡ 0
    → Opens depth skeleton p round s first next → (skeleton ≡ waits first) × (next ≡ first + 1)
alone p round depth (waits piece) s first next zero o = (ap waits o.0, o.1)
alone p round depth (proved piece tree) s first next zero o = absurd o
alone p round depth (split piece county limit parts raised) s first next zero o = absurd (omega (arith, zero, o.1))

-- all openings are one
one_opening : (p : Problem) (round : Round) (depth : ℕ) (s : State) (first : ℕ) → GoesTo round depth → (a b : Skeleton) (n m : ℕ)
    → Opens depth a p round s first n → Opens depth b p round s first m → (a ≡ b) × (n ≡ m)
one_opening p round depth s first (inl plain) a b n m o q =
    (same_skeleton p round plain depth a b s first n m o q, opens_one p round plain depth a b s first n m o q)
one_opening p round depth s first (inr zero) a b n m o q =
    let one = alone p round depth a s first n zero o in
    let other = alone p round depth b s first m zero q in
    (one.0 ∙ sym other.0, one.1 ∙ sym other.1)

module _ (p : Problem) (round : Round) (depth : ℕ) (s : State) (first : ℕ) (is : IsProblem p) (order : IsOrder p round.order)
    (goes : GoesTo round depth) (state : IsState p round s) where
  at_state : AnOpening p round depth s (first + 1)
  at_state = some_opening p round depth s (first + 1) is order goes (rest_listed p s state.once)

  either : ((a : AnOpening p round depth s (first + 1)) × (a.next ≤ most_opening + 1)) ⊎ OpensWithMore p round depth s first
  either = ⊎_elim (λ many. inr (each_more many)) (λ few. inl (at_state, few)) (cases_lt (most_opening + 1) at_state.next)
    where
      each_more : most_opening + 1 < at_state.next → OpensWithMore p round depth s first
      each_more many skeleton next o =
          omega (arith, many, (one_opening p round depth s (first + 1) goes skeleton at_state.skeleton next at_state.next o at_state.opens).1)

  with_more : OpensWithMore p round depth s first → (a : AnOpening p round depth s (first + 1)) × (most_opening + 1 < a.next)
  with_more more = (at_state, more at_state.skeleton at_state.next at_state.opens)

goes_to : (format : Format) (depth : ℕ) → HasDepth format depth → (format ≡ Plain) ⊎ (depth ≡ 0)
goes_to Plain depth h = inl refl
goes_to Wide depth h = inr h

some_content : (p : Problem) (depth : ℕ) (target : Grouping) (round : Round) → IsProblem p → MayBegin p depth target round
    → (b : Content) × IsOpening p depth round b
some_content p depth target round is may =
    let a = some_opening p round depth (empty_state p) 1 is may.order_is (goes_to round.format depth may.depth_is) (λ c e. e) in
    let last : a.next ≡ a.next - 1 + 1 = omega (arith, opens_up depth a.skeleton p round (empty_state p) 1 a.next a.opens) in
    let opens = subst (λ n. Opens depth a.skeleton p round (empty_state p) 1 n) last a.opens in (
      record { number = 1; round = round; skeleton = a.skeleton; last = a.next - 1 },
      record { number = refl; round_is = refl; begins = record { skeleton = opens } },
    )

pub rounds_open : RoundsOpen
rounds_open = record {
  some = λ p round depth s first is order goes state. some_opening p round depth s first is order goes (rest_listed p s state.once);
  one = λ p round depth s first goes a b. one_opening p round depth s first goes a.skeleton b.skeleton a.next b.next a.opens b.opens;
  either = either;
  more = with_more;
  begins = some_content;
}
