-- How leaves end.
use Rattle.std.proofs.Common.{◌≡◌, ℕ, ◌+◌, ◌*◌, ◌≤◌, ◌<◌, true, false, List, [], ◌∷◌, length, Option, Some, None, refl, sym, ap, ◌∙◌, subst, arith, inl, inr}
use Rattle.std.specs.Prelude.{⊤, ◌⊎◌}
use Rattle.std.proofs.lemmas.Bool.{false≢true}
use Rattle.grouping_laws.specs.Sets.{contains}
use Rattle.grouping_laws.specs.Problem.{Problem}
use Rattle.grouping_laws.specs.Grouping.{Grouping, counts, sets_of}
use Rattle.grouping_laws.proofs.Elements.{has_all, has_from_contains}
use Rattle.certificate_data.specs.declared.format.Format.{Format}
use Rattle.certificate_data.specs.Round.{Round}
use Rattle.certificate_laws.specs.State.{State}
use Rattle.certificate_data.specs.Tree.{Allowance, room, weigh, Leaf, bound, stuck, seats}
use Rattle.certificate_laws.specs.BoundLines.{IsFair, Bounds, allowance}
use Rattle.certificate_laws.specs.Leaves.{IsStuck, IsOffSeats, IsValidLeaf}
use Rattle.checker_laws.specs.Fault.{Fault, BoundLength, BoundWithoutTarget}
use Rattle.checker_laws.specs.End.{End, fine, faulty, LineEnds}
use Rattle.checker_laws.specs.Lines.{leaf_lines}
use Rattle.checker_laws.specs.Leaves.{IsLoss, IsEven, IsStuckFault, IsSeatsFault, NamesForeign, HasLightGroup, IsWithinTarget, IsAllowanceFault, AllowancesEnd, BoundedEnds, BoundEnds, LeafEnds}
use Rattle.checker_laws.proofs.Ends.{OneEnd, fine_not, line_same, faulty_same, lines_one, then_one}

stuck_in_rest : (p : Problem) (s : State) (c : ℕ) → IsStuck p s c → s.rest c ≡ false → ⊥
stuck_in_rest p s c h e = false≢true (sym e ∙ h.is_part.inside c h.around)

stuck_apart : (p : Problem) (s : State) (c : ℕ) (f : Fault) → IsStuck p s c → IsStuckFault p s c f → ⊥
stuck_apart p s c f h (inl k) = stuck_in_rest p s c h k.1
stuck_apart p s c f h (inr k) = k.2 h

stuck_same : (p : Problem) (s : State) (c : ℕ) (f g : Fault) → IsStuckFault p s c f → IsStuckFault p s c g → f ≡ g
stuck_same p s c f g (inl h) (inl k) = h.0 ∙ sym k.0
stuck_same p s c f g (inl h) (inr k) = absurd (false≢true (sym h.1 ∙ k.1))
stuck_same p s c f g (inr h) (inl k) = absurd (false≢true (sym k.1 ∙ h.1))
stuck_same p s c f g (inr h) (inr k) = h.0 ∙ sym k.0

fair_not_foreign : (format : Format) (p : Problem) (s : State) (i : ℕ) (line : Allowance) → IsFair format p s i line → NamesForeign p line → ⊥
fair_not_foreign format p s i room h k = k
fair_not_foreign format p s i (weigh quota ws) h k = false≢true (sym k.2 ∙ has_all (λ w. contains p.counties w.county ≡ true) ws h.1 k.0 (has_from_contains ws k.0 k.1))

fair_not_light : (format : Format) (p : Problem) (s : State) (i : ℕ) (line : Allowance) → IsFair format p s i line → HasLightGroup format p s i line → ⊥
fair_not_light format p s i room h k = k
fair_not_light format p s i (weigh quota ws) h k = omega (arith, h.2 k.1.0 k.1.1 k.1.2, k.1.3)

light_not_foreign : (format : Format) (p : Problem) (s : State) (i : ℕ) (line : Allowance) → HasLightGroup format p s i line → NamesForeign p line → ⊥
light_not_foreign format p s i room h k = k
light_not_foreign format p s i (weigh quota ws) h k = false≢true (sym k.2 ∙ h.0 k.0 k.1)

allowance_apart : (format : Format) (p : Problem) (s : State) (wanted : ℕ → ℕ) (i used : ℕ) (line : Allowance) (f : Fault)
    → IsWithinTarget format p s wanted i used line → IsAllowanceFault format p s wanted i used line f → ⊥
allowance_apart format p s wanted i used line f h (inl k) = fair_not_foreign format p s i line h.0 k.1
allowance_apart format p s wanted i used line f h (inr (inl k)) = fair_not_light format p s i line h.0 k.1
allowance_apart format p s wanted i used line f h (inr (inr k)) = omega (arith, h.1, k.2)

allowance_same : (format : Format) (p : Problem) (s : State) (wanted : ℕ → ℕ) (i used : ℕ) (line : Allowance) (f g : Fault)
    → IsAllowanceFault format p s wanted i used line f → IsAllowanceFault format p s wanted i used line g → f ≡ g
allowance_same format p s wanted i used line f g (inl h) (inl k) = h.0 ∙ sym k.0
allowance_same format p s wanted i used line f g (inl h) (inr (inl k)) = absurd (light_not_foreign format p s i line k.1 h.1)
allowance_same format p s wanted i used line f g (inl h) (inr (inr k)) = absurd (fair_not_foreign format p s i line k.1 h.1)
allowance_same format p s wanted i used line f g (inr (inl h)) (inl k) = absurd (light_not_foreign format p s i line h.1 k.1)
allowance_same format p s wanted i used line f g (inr (inl h)) (inr (inl k)) = h.0 ∙ sym k.0
allowance_same format p s wanted i used line f g (inr (inl h)) (inr (inr k)) = absurd (fair_not_light format p s i line k.1 h.1)
allowance_same format p s wanted i used line f g (inr (inr h)) (inl k) = absurd (fair_not_foreign format p s i line h.1 k.1)
allowance_same format p s wanted i used line f g (inr (inr h)) (inr (inl k)) = absurd (fair_not_light format p s i line h.1 k.1)
allowance_same format p s wanted i used line f g (inr (inr h)) (inr (inr k)) = h.0 ∙ sym k.0

-- behind a line comes the end after a loss, or that of the lines left
behind_one : (loss even : Type 0) (after : ℕ → End) (Ends : ℕ → End → Type 0) (n : ℕ) → (loss → even → ⊥) → OneEnd (Ends n) → OneEnd (λ later. (loss × (later ≡ after n)) ⊎ (even × Ends n later))
behind_one loss even after Ends n apart one x y (inl h) (inl k) = h.1 ∙ sym k.1
behind_one loss even after Ends n apart one x y (inl h) (inr k) = absurd (apart h.0 k.0)
behind_one loss even after Ends n apart one x y (inr h) (inl k) = absurd (apart k.0 h.0)
behind_one loss even after Ends n apart one x y (inr h) (inr k) = one x y h.1 k.1

allowances_one : (lines : List Allowance) (format : Format) (p : Problem) (s : State) (wanted : ℕ → ℕ) (i used n : ℕ) → OneEnd (AllowancesEnd lines format p s wanted i used n)
allowances_one [] format p s wanted i used n = lines_one 0 ⊤ (λ fault. ⊥) n (λ f h k. k) (λ f g h k. absurd h)
allowances_one (line ∷ lines) format p s wanted i used n =
    let loss = IsLoss p s wanted i used line in
    let even = IsEven p s wanted i used line in
    let Ends : ℕ → End → Type 0 = λ m later. AllowancesEnd lines format p s wanted (i + 1) (used + i * allowance p s i used line) m later in
    then_one (LineEnds (IsWithinTarget format p s wanted i used line) (IsAllowanceFault format p s wanted i used line) n)
    (λ m later. (loss × (later ≡ fine m)) ⊎ (even × Ends m later))
    (lines_one 1 (IsWithinTarget format p s wanted i used line) (IsAllowanceFault format p s wanted i used line) n (allowance_apart format p s wanted i used line) (allowance_same format p s wanted i used line))
    (λ m h. behind_one loss even fine Ends m (λ l e. omega (arith, l, e)) (allowances_one lines format p s wanted (i + 1) (used + i * allowance p s i used line) m))

-- lines that bound end without a fault
pub bounds_fine : (lines : List Allowance) (format : Format) (p : Problem) (limit : ℕ) (s : State) (wanted : ℕ → ℕ) (i used n : ℕ) → Bounds format p limit s wanted i used lines
    → AllowancesEnd lines format p s wanted i used n (fine (n + length lines))
bounds_fine [] format p limit s wanted i used n h = (tt, refl)
bounds_fine (line ∷ lines) format p limit s wanted i used n (fair, inl k) = (
  n + 1,
  ((fair, omega (arith, k.0)), refl),
  inr (
    k.0,
    subst (λ m. AllowancesEnd lines format p s wanted (i + 1) (used + i * allowance p s i used line) (n + 1) (fine m)) (omega arith)
        (bounds_fine lines format p limit s wanted (i + 1) (used + i * allowance p s i used line) (n + 1) k.1),
  ),
)
bounds_fine (line ∷ lines) format p limit s wanted i used n (fair, inr k) = (
  n + 1,
  ((fair, omega (arith, k.1)), refl),
  inl (k.1, ap (λ ls. fine (n + length (line ∷ ls))) k.2),
)

-- and there are no more of them than the limit
bounds_short : (lines : List Allowance) (format : Format) (p : Problem) (limit : ℕ) (s : State) (wanted : ℕ → ℕ) (i used : ℕ) → Bounds format p limit s wanted i used lines → i + length lines ≤ limit + 1
bounds_short [] format p limit s wanted i used h = omega (arith, h)
bounds_short (line ∷ lines) format p limit s wanted i used (fair, inl k) = omega (arith, bounds_short lines format p limit s wanted (i + 1) (used + i * allowance p s i used line) k.1)
bounds_short (line ∷ lines) format p limit s wanted i used (fair, inr k) = omega (arith, k.0, ap length k.2)

bounded_one : (lines : List Allowance) (p : Problem) (round : Round) (s : State) (wanted : ℕ → ℕ) (i used opened n : ℕ) → OneEnd (BoundedEnds lines p round s wanted i used opened n)
bounded_one lines p round s wanted i used opened n (fine x) (fine y) h k = ap fine (h.1 ∙ sym k.1)
bounded_one lines p round s wanted i used opened n (fine x) (faulty f l) h (inl k) = absurd (fine_not (n + length lines) f l (allowances_one lines round.format p s wanted i used n (fine (n + length lines)) (faulty f l) (bounds_fine lines round.format p round.limit s wanted i used n h.0) k))
bounded_one lines p round s wanted i used opened n (fine x) (faulty f l) h (inr k) = absurd (k.3 h.0)
bounded_one lines p round s wanted i used opened n (faulty f l) (fine y) (inl k) h = absurd (fine_not (n + length lines) f l (allowances_one lines round.format p s wanted i used n (fine (n + length lines)) (faulty f l) (bounds_fine lines round.format p round.limit s wanted i used n h.0) k))
bounded_one lines p round s wanted i used opened n (faulty f l) (fine y) (inr k) h = absurd (k.3 h.0)
bounded_one lines p round s wanted i used opened n (faulty f l) (faulty g m) (inl h) (inl k) = allowances_one lines round.format p s wanted i used n (faulty f l) (faulty g m) h k
bounded_one lines p round s wanted i used opened n (faulty f l) (faulty g m) (inl h) (inr k) = absurd (fine_not k.2.0 f l (allowances_one lines round.format p s wanted i used n (fine k.2.0) (faulty f l) k.2.1 h))
bounded_one lines p round s wanted i used opened n (faulty f l) (faulty g m) (inr h) (inl k) = absurd (fine_not h.2.0 g m (allowances_one lines round.format p s wanted i used n (fine h.2.0) (faulty g m) h.2.1 k))
bounded_one lines p round s wanted i used opened n (faulty f l) (faulty g m) (inr h) (inr k) = faulty_same f g l m (h.0 ∙ sym k.0) (h.1 ∙ sym k.1)

bound_one : (lines : List Allowance) (p : Problem) (round : Round) (s : State) (target : Option Grouping) (n : ℕ) → OneEnd (BoundEnds lines p round s target n)
bound_one lines p round s None n x y h k = h ∙ sym k
bound_one lines p round s (Some t) n x y (inl h) (inl k) = h.1 ∙ sym k.1
bound_one lines p round s (Some t) n x y (inl h) (inr k) = absurd (omega (arith, h.0, k.0))
bound_one lines p round s (Some t) n x y (inr h) (inl k) = absurd (omega (arith, h.0, k.0))
bound_one lines p round s (Some t) n x y (inr h) (inr k) = bounded_one lines p round s (counts (sets_of t)) 1 0 n (n + 1) x y h.1 k.1

pub leaf_one : (l : Leaf) (p : Problem) (round : Round) (s : State) (n : ℕ) → OneEnd (LeafEnds l p round s n)
leaf_one (stuck c) p round s n = lines_one 1 (IsStuck p s c) (IsStuckFault p s c) n (stuck_apart p s c) (stuck_same p s c)
leaf_one seats p round s n = lines_one 1 (IsOffSeats p s) (IsSeatsFault p s) n (λ f h k. k.1 h) (λ f g h k. h.0 ∙ sym k.0)
leaf_one (bound lines) p round s n = bound_one lines p round s round.target n

bound_valid : (lines : List Allowance) (p : Problem) (round : Round) (s : State) (target : Option Grouping) (n m : ℕ) → BoundEnds lines p round s target n (fine m)
    → ((t : Grouping) × (target ≡ Some t) × Bounds round.format p round.limit s (counts (sets_of t)) 1 0 lines) × (m ≡ n + (1 + length lines))
bound_valid lines p round s None n m h = absurd (fine_not m BoundWithoutTarget n h)
bound_valid lines p round s (Some t) n m (inl h) = absurd (fine_not m BoundLength n h.1)
bound_valid lines p round s (Some t) n m (inr h) = ((t, refl, h.1.0), omega (arith, h.1.1))

pub leaf_valid : (l : Leaf) (p : Problem) (round : Round) (s : State) (n m : ℕ) → LeafEnds l p round s n (fine m) → IsValidLeaf p round s l × (m ≡ n + leaf_lines l)
leaf_valid (stuck c) p round s n m h = h
leaf_valid seats p round s n m h = h
leaf_valid (bound lines) p round s n m h = bound_valid lines p round s round.target n m h

pub leaf_ends : (l : Leaf) (p : Problem) (round : Round) (s : State) (n : ℕ) → IsValidLeaf p round s l → LeafEnds l p round s n (fine (n + leaf_lines l))
leaf_ends (stuck c) p round s n h = (h, refl)
leaf_ends seats p round s n h = (h, refl)
leaf_ends (bound lines) p round s n h =
    subst (λ target. BoundEnds lines p round s target n (fine (n + (1 + length lines)))) (sym h.1)
    (inr (omega (arith, bounds_short lines round.format p round.limit s (counts (sets_of h.0)) 1 0 h.2), (h.2, omega arith)))

allowances_inside : (lines : List Allowance) (format : Format) (p : Problem) (s : State) (wanted : ℕ → ℕ) (i used n at : ℕ) (f : Fault) → AllowancesEnd lines format p s wanted i used n (faulty f at) → (n ≤ at) × (at < n + length lines)
allowances_inside [] format p s wanted i used n at f h = absurd h.0
allowances_inside (line ∷ lines) format p s wanted i used n at f (inl h) = (omega (arith, h.1), omega (arith, h.1))
allowances_inside (line ∷ lines) format p s wanted i used n at f (inr (m, h, inl k)) = absurd (fine_not m f at (sym k.1))
allowances_inside (line ∷ lines) format p s wanted i used n at f (inr (m, h, inr k)) =
    let r = allowances_inside lines format p s wanted (i + 1) (used + i * allowance p s i used line) m at f k.1 in
    (omega (arith, h.1, r.0), omega (arith, h.1, r.1))

bound_inside : (lines : List Allowance) (p : Problem) (round : Round) (s : State) (target : Option Grouping) (n at : ℕ) (f : Fault) → BoundEnds lines p round s target n (faulty f at) → (n ≤ at) × (at < n + (1 + length lines))
bound_inside lines p round s None n at f h = let e = line_same f BoundWithoutTarget at n h in (omega (arith, e), omega (arith, e))
bound_inside lines p round s (Some t) n at f (inl h) = let e = line_same f BoundLength at n h.1 in (omega (arith, e), omega (arith, e))
bound_inside lines p round s (Some t) n at f (inr (few, inl h)) =
    let r = allowances_inside lines round.format p s (counts (sets_of t)) 1 0 (n + 1) at f h in (omega (arith, r.0), omega (arith, r.1))
bound_inside lines p round s (Some t) n at f (inr (few, inr h)) = (omega (arith, h.1), omega (arith, h.1))

-- the line of a fault is one of the leaf's
pub leaf_inside : (l : Leaf) (p : Problem) (round : Round) (s : State) (n at : ℕ) (f : Fault) → LeafEnds l p round s n (faulty f at) → (n ≤ at) × (at < n + leaf_lines l)
leaf_inside (stuck c) p round s n at f h = (omega (arith, h.1), omega (arith, h.1))
leaf_inside seats p round s n at f h = (omega (arith, h.1), omega (arith, h.1))
leaf_inside (bound lines) p round s n at f h = bound_inside lines p round s round.target n at f h
