-- How to tell from its last line whether a valid bound leaf falls short.
use Rattle.std.specs.Prelude.{ℕ, zero, suc, ◌+◌, ◌-◌, ◌*◌, ◌≡◌, ◌<◌, true, nat_lt, List, [], ◌∷◌, ◌++◌, length}
use Rattle.grouping_laws.specs.Problem.{Problem}
use Rattle.grouping_laws.specs.Grouping.{counts}
use Rattle.certificate_data.specs.declared.format.Format.{Format}
use Rattle.certificate_laws.specs.State.{State}
use Rattle.certificate_data.specs.Tree.{Allowance}
use Rattle.certificate_laws.specs.BoundLines.{allowance, Bounds}
use Rattle.list_laws.specs.Ends.{falls_short}

-- the number of counties in the groups of at most n counties that are wanted and not closed
abbrev pub still_wanted : State → (ℕ → ℕ) → ℕ → ℕ
still_wanted s f zero = 0
still_wanted s f (suc n) = still_wanted s f n + suc n * (f (suc n) - counts s.closed (suc n))

-- If a valid bound leaf has fewer lines than the limit, it falls short. Any other falls short exactly if its last line
-- gives too few groups, with the counties of the smaller groups that are still wanted used up.
pub record LeavesAreTold : Type 0 where
  pub fewer : (format : Format) (p : Problem) (limit : ℕ) (s : State) (f : ℕ → ℕ) (lines : List Allowance)
      → Bounds format p limit s f 1 0 lines → length lines < limit → falls_short p s f 1 0 lines ≡ true
  pub last : (format : Format) (p : Problem) (limit : ℕ) (s : State) (f : ℕ
      → ℕ) (lines : List Allowance) (line : Allowance)
      → Bounds format p limit s f 1 0 (lines ++ line ∷ [])
      → falls_short p s f 1 0 (lines ++ line ∷ [])
      ≡ nat_lt (counts s.closed (length lines + 1)
      + allowance p s (length lines + 1) (still_wanted s f (length lines)) line) (f (length lines + 1))
