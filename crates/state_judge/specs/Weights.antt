-- The weights of a line of a bound leaf, as values of the Rust type, and where the line isn't fair.
use Rattle.std.specs.Prelude.{ℕ, ◌≡◌, List, map, ◌⊎◌}
use Rattle.grouping_laws.specs.Problem.{Problem}
use Rattle.certificate_data.specs.declared.format.Format.{Format}
use Rattle.certificate_laws.specs.State.{State}
use Rattle.certificate_data.specs.Tree.{Weight, Allowance}
use Rattle.certificate_laws.specs.BoundLines.{weight_of}
use Rattle.certificate_data.specs.TreeValue as held
use Rattle.certificate_data.specs.declared.weights.Weight.{Weight as WeightHeld}
use Rattle.checker_laws.specs.Fault.{Fault, WrongCounty, LightGroup}
use Rattle.checker_laws.specs.Leaves.{NamesForeign, HasLightGroup}

-- the weights of a line
abbrev pub weights_of : List WeightHeld → List Weight
weights_of ws = map held.weight_of ws

-- what they give to a county
abbrev pub county_weight : List WeightHeld → ℕ → ℕ
county_weight ws c = weight_of (weights_of ws) c

-- the line isn't fair: it names a weight of no county, or else there is a group that weighs too little
abbrev pub IsUnfair : Format → Problem → State → ℕ → Allowance → Fault → Type 0
IsUnfair format p s i line fault =
    ((fault ≡ WrongCounty) × NamesForeign p line) ⊎ ((fault ≡ LightGroup) × HasLightGroup format p s i line)
