-- Which of the connected sets that are met are kept.
use Rattle.std.specs.Prelude.{ℕ, ◌≡◌, Bool, true, false, not, ◌&&◌, ◌==◌, List, filter, length, ◌↔◌, ⊤}
use Rattle.grouping_laws.specs.Sets.{contains}
use Rattle.grouping_laws.specs.Problem.{Problem, Connected}
use Rattle.grouping_laws.specs.Places.{places_below}
use Rattle.certificate_data.specs.declared.format.Format.{Format}
use Rattle.certificate_laws.specs.State.{State}
use Rattle.certificate_laws.specs.Fitting.{Fits}

-- the set has exactly the size of the limit, where that is asked
abbrev pub IsAsked : Bool → ℕ → List ℕ → Type 0
IsAsked true limit g = length g ≡ limit
IsAsked false limit g = ⊤

-- the test passes exactly the connected lists of places, ascending, that fit the state and have the size that is asked
-- for
abbrev pub Decides : Format → Problem → ℕ → ℕ → Bool → State → (List ℕ → Bool) → Type 0
Decides format p n limit exact s keep =
    (g : List ℕ) → Connected p g → filter (contains g) (places_below n) ≡ g → (keep g ≡ true)
    ↔ (Fits format p s g × IsAsked exact limit g)

-- the other places of a region
abbrev pub others : (ℕ → Bool) → ℕ → ℕ → Bool
others region place x = region x && not (x == place)
