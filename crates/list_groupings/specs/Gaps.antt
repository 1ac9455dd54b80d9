-- Where a tree isn't complete: its first bound leaf that comes to the target's counts at a state that isn't filled, and
-- the leaf's line.
use Rattle.std.specs.Prelude.{ℕ, ◌+◌, ◌≡◌, ◌≢◌, true, false, List, [], ◌∷◌, ◌⊎◌}
use Rattle.grouping_laws.specs.Sets.{sum_by}
use Rattle.grouping_laws.specs.Problem.{Problem}
use Rattle.grouping_laws.specs.Ranges.{SuitAll}
use Rattle.certificate_data.specs.Round.{Round}
use Rattle.certificate_laws.specs.State.{State, close, raise}
use Rattle.certificate_data.specs.Tree.{Leaf, Tree, leaf, branch, Takes, no_take, take}
use Rattle.certificate_laws.specs.Proving.{limit_of}
use Rattle.checker_laws.specs.Lines.{tolerance_line, tree_lines, takes_lines, target_lines}
use Rattle.list_laws.specs.Ends.{leaf_ends}
use Rattle.list_laws.specs.Completeness.{IsComplete, EachIsComplete}
use Rattle.list_groupings.specs.declared.gap.Gap.{Gap}
use Rattle.list_groupings.specs.declared.gap.Gap.TheVariants.{CountiesLeft, SeatsOff}

-- the state isn't filled: a county is left; or none is, and no seats suit the closed groups and add up to the seats
-- left
abbrev pub IsGap : Problem → State → Gap → Type 0
IsGap p s CountiesLeft = (c : ℕ) × (s.rest c ≡ true)
IsGap p s SeatsOff =
    ((c : ℕ) → s.rest c ≡ false) × ((ks : List ℕ) → SuitAll p s.closed ks → sum_by (λ k. k) ks ≢ p.seats_left)

-- a leaf that has the closed groups as an end, at a state that isn't filled
abbrev pub IsLeafGap : Leaf → Problem → Round → State → Gap → Type 0
IsLeafGap l p round s gap = (leaf_ends l p round s ≡ s.closed ∷ []) × IsGap p s gap

-- The first gap of a tree whose lines begin at this one: the first bound leaf that comes to the target's counts where
-- the state isn't filled, and the leaf's first line. What stands before the leaf is complete.
abbrev mutual
  pub IsFirstGap : Tree → Problem → Round → State → (line : ℕ) → Gap → (at : ℕ) → Type 0
  IsFirstGap (leaf l) p round s line gap at = IsLeafGap l p round s gap × (at ≡ line)
  IsFirstGap (branch county limit takes raised) p round s line gap at =
      IsFirstGapIn takes p round s (line + 1) gap at
      ⊎ (EachIsComplete takes p round s
      × IsFirstGap raised p round (raise county (limit_of round limit) s) (line + 1 + takes_lines takes) gap at)

  pub IsFirstGapIn : Takes → Problem → Round → State → (line : ℕ) → Gap → (at : ℕ) → Type 0
  IsFirstGapIn no_take p round s line gap at = ⊥
  IsFirstGapIn (take codes tree others) p round s line gap at =
      IsFirstGap tree p round (close codes s) (line + 1) gap at
      ⊎ (IsComplete tree p round (close codes s) × IsFirstGapIn others p round s (line + 1 + tree_lines tree) gap at)

-- the line of a certificate on which its tree begins: head, tolerance if one is named, order, limit and target stand
-- before it
abbrev pub first_gap_line : Round → ℕ
first_gap_line round = tolerance_line round.tolerance + 4 + target_lines round.target
