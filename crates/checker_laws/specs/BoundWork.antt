-- What each line of a bound leaf does to what is left to judge and to look through.
use Rattle.std.specs.Prelude.{ℕ, ◌+◌, ◌*◌, ◌≡◌, ◌≢◌, ◌≤◌, List, [], ◌∷◌, length, Some}
use Rattle.grouping_laws.specs.Problem.{Problem}
use Rattle.grouping_laws.specs.Grouping.{Grouping, counts, sets_of}
use Rattle.certificate_data.specs.Round.{Round}
use Rattle.certificate_laws.specs.State.{State}
use Rattle.certificate_data.specs.Tree.{Allowance, bound}
use Rattle.certificate_laws.specs.BoundLines.{allowance, IsFair}
use Rattle.checker_laws.specs.Fault.{Fault, BoundLength}
use Rattle.checker_laws.specs.End.{End, fine, faulty}
use Rattle.checker_laws.specs.Leaves.{IsLoss, IsEven, IsAllowanceFault, BoundedEnds, LeafEnds}
use Rattle.checker_laws.specs.Cost.{Both, LineLooks, AllowancesLook, LeafLooks}

-- As the lines that are left end, so the leaf ends before the line; a fault or a loss ends all.
pub record BoundLinesCarry : Type 0 where
  -- where there is a target and no more lines than the limit, the leaf ends as its lines do
  pub opened : (lines : List Allowance) (p : Problem) (round : Round) (s : State) (target : Grouping) (line : ℕ)
      (end : End)
      → round.target ≡ Some target → length lines ≤ round.limit
      → BoundedEnds lines p round s (counts (sets_of target)) 1 0 line (line + 1) end
      → LeafEnds (bound lines) p round s line end
  -- a line that allows as many groups as the target has
  pub even : (line : Allowance) (lines : List Allowance) (p : Problem) (round : Round) (s : State) (wanted : ℕ
      → ℕ) (i used opened n : ℕ) (end : End) → IsFair round.format p s i line → IsEven p s wanted i used line
      → BoundedEnds lines p round s wanted (i + 1) (used + i * allowance p s i used line) opened (n + 1) end
      → BoundedEnds (line ∷ lines) p round s wanted i used opened n end
  -- a loss, with no line behind it and with some
  pub loss : (line : Allowance) (p : Problem) (round : Round) (s : State) (wanted : ℕ → ℕ) (i used opened n : ℕ)
      → i ≤ round.limit → IsFair round.format p s i line → IsLoss p s wanted i used line
      → BoundedEnds (line ∷ []) p round s wanted i used opened n (fine (n + 1))
  pub behind_loss : (line : Allowance) (lines : List Allowance) (p : Problem) (round : Round) (s : State) (wanted : ℕ
      → ℕ) (i used opened n : ℕ) → IsFair round.format p s i line → IsLoss p s wanted i used line → lines ≢ []
      → BoundedEnds (line ∷ lines) p round s wanted i used opened n (faulty BoundLength opened)
  -- a line at fault
  pub fault : (line : Allowance) (lines : List Allowance) (p : Problem) (round : Round) (s : State) (wanted : ℕ
      → ℕ) (i used opened n : ℕ) (fault : Fault) → IsAllowanceFault round.format p s wanted i used line fault
      → BoundedEnds (line ∷ lines) p round s wanted i used opened n (faulty fault n)
  -- no line is left: at the limit, and before it
  pub at_limit : (p : Problem) (round : Round) (s : State) (wanted : ℕ → ℕ) (i used opened n : ℕ) → i ≡ round.limit + 1
      → BoundedEnds [] p round s wanted i used opened n (fine n)
  pub too_few : (p : Problem) (round : Round) (s : State) (wanted : ℕ → ℕ) (i used opened n : ℕ) → i ≤ round.limit
      → BoundedEnds [] p round s wanted i used opened n (faulty BoundLength opened)

-- What is to be looked through before a line of a bound leaf is what the line looks through, and what is left after it.
pub record BoundLinesCost : Type 0 where
  pub opened : (lines : List Allowance) (p : Problem) (round : Round) (s : State) (target : Grouping) (n : ℕ)
      → round.target ≡ Some target → length lines ≤ round.limit → LeafLooks (bound lines) p round s n
      → AllowancesLook lines p round s (counts (sets_of target)) 1 0 n
  pub even : (line : Allowance) (lines : List Allowance) (p : Problem) (round : Round) (s : State) (wanted : ℕ
      → ℕ) (i used n : ℕ) → IsFair round.format p s i line → IsEven p s wanted i used line
      → AllowancesLook (line ∷ lines) p round s wanted i used n
      → Both (LineLooks line p round s i) (AllowancesLook lines p round s wanted (i + 1) (used
      + i * allowance p s i used line)) n
  -- the last line that is judged looks through no more than is to be looked through
  pub last : (line : Allowance) (lines : List Allowance) (p : Problem) (round : Round) (s : State) (wanted : ℕ
      → ℕ) (i used n : ℕ) → AllowancesLook (line ∷ lines) p round s wanted i used n
      → (m : ℕ) × LineLooks line p round s i m × (m ≤ n)
