-- Sets that strand a part.
use Rattle.std.specs.Prelude.{ℕ, ◌≡◌, ◌≤◌, ◌<◌, Bool, true, false, List, length, ◌⊎◌}
use Rattle.grouping_laws.specs.Sets.{contains}
use Rattle.grouping_laws.specs.Problem.{Problem, Suits, people_of}
use Rattle.grouping_laws.specs.Parts.{IsPart}
use Rattle.connected_laws.specs.Growing.{IsExtension}
use Rattle.certificate_data.specs.declared.format.Format.{Format}
use Rattle.certificate_laws.specs.State.{State}
use Rattle.certificate_laws.specs.StuckParts.{CannotFill}
use Rattle.certificate_laws.specs.Fitting.{Fits}

-- no set that has all of a set, else only free places, fits
abbrev pub NoneFits : Format → Problem → ℕ → ℕ → State → (ℕ → Bool) → (ℕ → Bool) → Type 0
NoneFits format p n limit s set free = (g : List ℕ) → IsExtension p n limit set free g → Fits format p s g → ⊥

-- a set has a place that is not free, and nothing of the set around that place can be filled: no number of seats suits
-- so few people, or the place asks for more places than the set has
pub record IsTooSmall (p : Problem) (s : State) (free : ℕ → Bool) (codes : List ℕ) : Type 0 where
  pub place : ℕ
  pub there : contains codes place ≡ true
  pub not_free : free place ≡ false
  pub small : ((people k : ℕ) → people ≤ people_of p codes → ¬ Suits p people k) ⊎ (length codes < s.least place)

-- a set that has no free place and can't be filled, or that is too small
abbrev pub IsStranded : Problem → State → (ℕ → Bool) → List ℕ → Type 0
IsStranded p s free codes =
    (((c : ℕ) → contains codes c ≡ true → free c ≡ false) × CannotFill p s codes) ⊎ IsTooSmall p s free codes

-- a connected part of the region that is stranded
pub record StrandedPart (p : Problem) (s : State) (region free : ℕ → Bool) : Type 0 where
  pub part : List ℕ
  pub is_part : IsPart p region part
  pub stranded : IsStranded p s free part
