-- Laws of listings and of first gaps.
use Rattle.std.specs.Prelude.{ℕ, ◌≡◌, List, map}
use Rattle.grouping_laws.specs.Problem.{Problem}
use Rattle.grouping_laws.specs.Grouping.{Grouping, sets_of}
use Rattle.certificate_data.specs.Round.{Round}
use Rattle.certificate_laws.specs.State.{State}
use Rattle.certificate_data.specs.Tree.{Tree}
use Rattle.list_laws.specs.AllBest.{AreAllBest}
use Rattle.list_laws.specs.Completeness.{IsComplete}
use Rattle.list_groupings.specs.declared.gap.Gap.{Gap}
use Rattle.list_groupings.specs.Gaps.{IsFirstGap}
use Rattle.list_groupings.specs.ListOrder.{AreInOrder}

-- Two lists of all best groupings of a problem, both in order, have the same sets in the same order.
abbrev pub ListsAgree : Type 0
ListsAgree =
    (p : Problem) (xs ys : List Grouping) → AreAllBest p xs → AreAllBest p ys → AreInOrder xs → AreInOrder ys
    → map sets_of xs ≡ map sets_of ys

-- A tree is complete, or it has one first gap.
pub record GapsTell : Type 0 where
  -- a complete tree has no first gap
  pub none : (tree : Tree) (p : Problem) (round : Round) (s : State) (line : ℕ) (gap : Gap) (at : ℕ)
      → IsComplete tree p round s → ¬ IsFirstGap tree p round s line gap at
  -- two first gaps of a tree are the same
  pub one : (tree : Tree) (p : Problem) (round : Round) (s : State) (line : ℕ) (gap other : Gap) (at there : ℕ)
      → IsFirstGap tree p round s line gap at → IsFirstGap tree p round s line other there
      → (gap ≡ other) × (at ≡ there)
  -- it can't be that a tree has no first gap and isn't complete
  pub some : (tree : Tree) (p : Problem) (round : Round) (s : State) (line : ℕ)
      → ((gap : Gap) (at : ℕ) → ¬ IsFirstGap tree p round s line gap at) → (IsComplete tree p round s → ⊥) → ⊥
