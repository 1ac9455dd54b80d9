-- The groups of one size at a state, part by part of its rest.
use Rattle.std.specs.Prelude.{ℕ, ◌*◌, ◌≡◌, ◌≤◌, ◌<◌, Bool, true, cond, List, [], length, Contains, ◌⊎◌, ◌↔◌}
use Rattle.grouping_laws.specs.Sets.{contains}
use Rattle.grouping_laws.specs.Problem.{Problem, IsProblem}
use Rattle.grouping_laws.specs.Parts.{AreParts}
use Rattle.certificate_data.specs.declared.format.Format.TheVariants.{Wide}
use Rattle.certificate_laws.specs.State.{State}
use Rattle.certificate_laws.specs.Fitting.{Fits}
use Rattle.certificate_laws.specs.Leaves.{IsStuck}

-- the state in which no group is closed, the region is the rest, and each of its counties lies in a group of at least
-- `size` counties
abbrev pub alone : (ℕ → Bool) → ℕ → State
alone region size = record { closed = []; rest = region; least = λ c. cond (region c) size 0 }

-- No group of fewer counties fits, no part of the rest is stuck, and each county of the rest may lie in a group of so
-- many.
pub record IsSizeToList (p : Problem) (s : State) (size : ℕ) : Type 0 where
  pub listed : (c : ℕ) → s.rest c ≡ true → contains p.counties c ≡ true
  pub none : (g : List ℕ) → Fits Wide p s g → length g < size → ⊥
  pub no_stuck : (c : ℕ) → ¬ IsStuck p s c
  pub low : (c : ℕ) → s.rest c ≡ true → s.least c ≤ size

-- a group that fits one of the parts by itself; the part is no larger than the group, or at least twice as large
pub record FitsPart (p : Problem) (parts : List (List ℕ)) (size : ℕ) (g : List ℕ) : Type 0 where
  pub part : List ℕ
  pub there : Contains parts part
  pub fits : Fits Wide p (alone (contains part) size) g
  pub room : (length part ≡ size) ⊎ (2 * size ≤ length part)

-- At such a size the groups that fit the state are those that fit one of the parts of its rest by itself. What the
-- state has closed, and what its counties ask for, is no matter.
abbrev pub PartsServe : Type 0
PartsServe =
    (p : Problem) (s : State) (size : ℕ) (parts : List (List ℕ)) → IsProblem p → IsSizeToList p s size
    → AreParts p s.rest parts
    → (g : List ℕ) → length g ≡ size → Fits Wide p s g ↔ FitsPart p parts size g
