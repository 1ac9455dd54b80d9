-- What a search puts behind the sets that were there, and the steps that it takes.
use Rattle.std.specs.Prelude.{ℕ, ◌+◌, ◌≡◌, ◌≢◌, ◌≤◌, Bool, true, List, ◌++◌, length, All, AllPairs}
use Rattle.grouping_laws.specs.Problem.{Problem}
pub use Rattle.place_sets.specs.PlaceSets.{lists_of, AreBelow}
use Rattle.connected_laws.specs.Growing.{AreKept, IsExtension}

-- no free place has more people than this number
abbrev pub HasMost : Problem → (ℕ → Bool) → ℕ → Type 0
HasMost p free most = (c : ℕ) → free c ≡ true → p.people c ≤ most

-- The extensions that pass the test are put behind the sets of a list.
pub record IsListed (C : Type 0) (test : C → ℕ → Bool) (p : Problem) (n limit : ℕ) (keep : List ℕ → Bool)
    (set free : ℕ → Bool) (old new : List C) : Type 0 where
  pub added : List C
  pub more : new ≡ old ++ added
  pub kept : AreKept p n limit keep set free (lists_of n test added)
  pub below : AreBelow n test added

-- each step is taken for one list of the kind, and no two steps for the same list
pub record OneStepEach (IsOne : List ℕ → Type 0) (before after : ℕ) : Type 0 where
  pub sets : List (List ℕ)
  pub each : All IsOne sets
  pub once : AllPairs (λ g h. g ≢ h) sets
  pub steps : after ≡ before + length sets

-- each step is one for an extension of its own
abbrev pub HasStepped : Problem → ℕ → ℕ → (ℕ → Bool) → (ℕ → Bool) → ℕ → ℕ → Type 0
HasStepped p n limit set free before after = OneStepEach (IsExtension p n limit set free) before after
