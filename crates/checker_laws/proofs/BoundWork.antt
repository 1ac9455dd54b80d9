-- What each line of a bound leaf does to what is left to judge and to look through.
use Rattle.std.proofs.Common.{◌≡◌, ℕ, ◌+◌, ◌*◌, ◌≤◌, List, [], ◌∷◌, length, Some, refl, sym, subst, arith, inl, inr}
use Rattle.std.specs.Prelude.{◌≢◌}
use Rattle.grouping_laws.specs.Problem.{Problem}
use Rattle.grouping_laws.specs.Grouping.{Grouping, counts, sets_of}
use Rattle.certificate_data.specs.Round.{Round}
use Rattle.certificate_laws.specs.State.{State}
use Rattle.certificate_data.specs.Tree.{Allowance, bound}
use Rattle.certificate_laws.specs.BoundLines.{allowance, IsFair, Bounds}
use Rattle.checker_laws.specs.Fault.{BoundLength}
use Rattle.checker_laws.specs.End.{End, fine, faulty}
use Rattle.checker_laws.specs.Leaves.{IsLoss, IsEven, BoundedEnds, BoundEnds, LeafEnds}
use Rattle.checker_laws.specs.Cost.{AllowancesLook, BoundLooks}
use Rattle.checker_laws.specs.BoundWork.{BoundLinesCarry, BoundLinesCost}
use Rattle.checker_laws.proofs.WorkCost.{where_fine}

even_carries : (line : Allowance) (lines : List Allowance) (p : Problem) (round : Round) (s : State) (wanted : ℕ → ℕ) (i used opened n : ℕ) (end : End) → IsFair round.format p s i line → IsEven p s wanted i used line
    → BoundedEnds lines p round s wanted (i + 1) (used + i * allowance p s i used line) opened (n + 1) end → BoundedEnds (line ∷ lines) p round s wanted i used opened n end
even_carries line lines p round s wanted i used opened n (fine next) fair even h = ((fair, inl (even, h.0)), omega (arith, h.1))
even_carries line lines p round s wanted i used opened n (faulty f at) fair even (inl h) = inl (inr (n + 1, ((fair, omega (arith, even)), refl), inr (even, h)))
even_carries line lines p round s wanted i used opened n (faulty f at) fair even (inr h) = inr (h.0, h.1, (h.2.0, (n + 1, ((fair, omega (arith, even)), refl), inr (even, h.2.1))), no)
  where
    no : Bounds round.format p round.limit s wanted i used (line ∷ lines) → ⊥
    no (both, inl k) = h.3 k.1
    no (both, inr k) = omega (arith, even, k.1)

loss_behind : (line : Allowance) (lines : List Allowance) (p : Problem) (round : Round) (s : State) (wanted : ℕ → ℕ) (i used opened n : ℕ) → IsFair round.format p s i line → IsLoss p s wanted i used line → lines ≢ []
    → BoundedEnds (line ∷ lines) p round s wanted i used opened n (faulty BoundLength opened)
loss_behind line lines p round s wanted i used opened n fair loss some = inr (refl, refl, (n + 1, (n + 1, ((fair, omega (arith, loss)), refl), inl (loss, refl))), no)
  where
    no : Bounds round.format p round.limit s wanted i used (line ∷ lines) → ⊥
    no (both, inl k) = omega (arith, loss, k.0)
    no (both, inr k) = some k.2

lines_opened : (lines : List Allowance) (p : Problem) (round : Round) (s : State) (target : Grouping) (line : ℕ) (end : End) → round.target ≡ Some target → length lines ≤ round.limit
    → BoundedEnds lines p round s (counts (sets_of target)) 1 0 line (line + 1) end → LeafEnds (bound lines) p round s line end
lines_opened lines p round s target line end is few h = subst (λ z. BoundEnds lines p round s z line end) (sym is) (inr (few, h))

pub bound_lines_carry : BoundLinesCarry
bound_lines_carry = record {
  opened = lines_opened;
  even = even_carries;
  loss = λ line p round s wanted i used opened n small fair loss. ((fair, inr (small, loss, refl)), refl);
  behind_loss = loss_behind;
  fault = λ line lines p round s wanted i used opened n fault h. inl (inl (h, refl));
  at_limit = λ p round s wanted i used opened n is. (is, omega arith);
  too_few = λ p round s wanted i used opened n small. inr (refl, refl, (n, (tt, omega arith)), λ (e : i ≡ round.limit + 1). omega (arith, e, small));
}

pub bound_lines_cost : BoundLinesCost
bound_lines_cost = record {
  opened = λ lines p round s target n is few h.
      let looks = subst (λ z. BoundLooks lines p round s z n) is h in
      where_fine (length lines ≤ round.limit) (AllowancesLook lines p round s (counts (sets_of target)) 1 0) n few looks;
  even = λ line lines p round s wanted i used n fair even h.
      (h.0, h.1, h.2, where_fine (IsFair round.format p s i line × IsEven p s wanted i used line) (AllowancesLook lines p round s wanted (i + 1) (used + i * allowance p s i used line)) h.1 (fair, even) h.3, h.4);
  last = λ line lines p round s wanted i used n h. (h.0, h.2, omega (arith, h.4));
}
