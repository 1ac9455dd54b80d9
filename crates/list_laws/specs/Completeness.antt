-- Complete trees: each of their bound leaves falls short of the target, or no county is left at its state.
use Rattle.std.specs.Prelude.{ℕ, ◌≡◌, false, List, ⊤}
use Rattle.grouping_laws.specs.Sets.{sum_by}
use Rattle.grouping_laws.specs.Problem.{Problem}
use Rattle.grouping_laws.specs.Ranges.{SuitAll}
use Rattle.certificate_data.specs.Round.{Round}
use Rattle.certificate_laws.specs.State.{State, close, raise}
use Rattle.certificate_data.specs.Tree.{Leaf, stuck, seats, bound, Tree, leaf, branch, Takes, no_take, take}
use Rattle.certificate_laws.specs.Proving.{limit_of}
use Rattle.list_laws.specs.Ends.{wanted, falls_short}

-- no county is left, and numbers of seats that the closed groups suit add up to the seats left
pub record IsFilled (p : Problem) (s : State) : Type 0 where
  pub none_left : (c : ℕ) → s.rest c ≡ false
  pub seats_of_closed : List ℕ
  pub suit : SuitAll p s.closed seats_of_closed
  pub add_up : sum_by (λ k. k) seats_of_closed ≡ p.seats_left

-- a bound leaf falls short of the target's counts, or the state is filled
abbrev pub IsCompleteLeaf : Leaf → Problem → Round → State → Type 0
IsCompleteLeaf (stuck county) p round s = ⊤
IsCompleteLeaf seats p round s = ⊤
IsCompleteLeaf (bound lines) p round s = falls_short p s (wanted round.target) 1 0 lines ≡ false → IsFilled p s

-- each leaf of the tree is complete at its state
abbrev mutual
  pub IsComplete : Tree → Problem → Round → State → Type 0
  IsComplete (leaf l) p round s = IsCompleteLeaf l p round s
  IsComplete (branch county limit takes raised) p round s =
      EachIsComplete takes p round s × IsComplete raised p round (raise county (limit_of round limit) s)

  pub EachIsComplete : Takes → Problem → Round → State → Type 0
  EachIsComplete no_take p round s = ⊤
  EachIsComplete (take codes tree others) p round s =
      IsComplete tree p round (close codes s) × EachIsComplete others p round s
