-- Why a partial tree isn't taken at a state.
use Rattle.std.specs.Prelude.{ℕ, ◌+◌, ◌*◌, ◌≡◌, ◌<◌, List, ⊤}
use Rattle.grouping_laws.specs.Problem.{Problem}
use Rattle.certificate_data.specs.Round.{Round}
use Rattle.certificate_laws.specs.State.{State}
use Rattle.state_judge.specs.declared.fault.LineStop.{LineStop}
use Rattle.state_judge.specs.declared.fault.LineStop.TheVariants as line
use Rattle.board_laws.specs.PartialTrees.{PartialTree, PartialTakes, begun_groups, ProvesPart, EachProvesPart}
use Rattle.board_laws.specs.PartCost.{PartCosts, BegunLook, begun_lines}
use Rattle.partial_trees.specs.declared.stop.PartStop.{PartStop}
use Rattle.partial_trees.specs.declared.stop.PartStop.TheVariants.{NotAProof, Budget, Memory}
use Rattle.partial_trees.specs.OpenStates.{IsSpelledPart, EachIsSpelled}

-- the stop of a line, as one of a partial tree
abbrev pub part_stop : LineStop → PartStop
part_stop (line.Fault fault) = NotAProof
part_stop line.Unspelled = NotAProof
part_stop line.StepLimit = Budget
part_stop line.Memory = Memory

-- a partial tree that texts spell and that proves the state but for its open leaves
abbrev pub IsPartProof : Problem → Round → State → PartialTree → Type 0
IsPartProof p round s tree = IsSpelledPart round tree × ProvesPart tree p round s

-- it is none; or the budget is below its cost
abbrev pub IsPartRefusal : Problem → ℕ → Round → State → PartialTree → PartStop → Type 0
IsPartRefusal p budget round s tree NotAProof = ¬ IsPartProof p round s tree
IsPartRefusal p budget round s tree Budget = (cost : ℕ) → PartCosts tree p round s cost → budget < cost
IsPartRefusal p budget round s tree Memory = ⊤

-- takes of these groups that texts spell, each of which proves its state but for its open leaves
abbrev pub AreTakeProofs : Problem → Round → State → List (List ℕ) → PartialTakes → Type 0
AreTakeProofs p round s groups takes =
    (begun_groups takes ≡ groups) × EachIsSpelled round takes × EachProvesPart takes p round s

abbrev pub IsTakesRefusal : Problem → ℕ → Round → State → List (List ℕ) → PartialTakes → PartStop → Type 0
IsTakesRefusal p budget round s groups takes NotAProof = ¬ AreTakeProofs p round s groups takes
IsTakesRefusal p budget round s groups takes Budget =
    (n : ℕ) → BegunLook takes p round s groups n → budget < 3 * (begun_lines takes + n)
IsTakesRefusal p budget round s groups takes Memory = ⊤
