-- Which partial trees have a text.
use Rattle.std.specs.Prelude.{ℕ, List, length}
use Rattle.grouping_laws.specs.Problem.{Problem}
use Rattle.grouping_laws.specs.GroupsFrom.{IsOrder}
use Rattle.certificate_data.specs.Round.{Round}
use Rattle.certificate_laws.specs.State.{State, IsState}
use Rattle.board_laws.specs.PartialTrees.{PartialTree, ProvesPart}
use Rattle.partial_trees.specs.OpenBranches.{BranchesAreOpen}
use Rattle.partial_trees.specs.OpenStates.{IsSpelledPart}
use Rattle.partial_text.specs.Spelling.{IsPartSpelling}

-- A partial tree that is valid at a state of the round, and whose numbers are in the ranges of their lines, has a text
-- if each of its branches has an open leaf.
abbrev pub PartsHaveTexts : Type 0
PartsHaveTexts = (p : Problem) (round : Round) (s : State) (part : PartialTree) → IsOrder p round.order
    → IsState p round s → IsSpelledPart round part → ProvesPart part p round s → BranchesAreOpen part
    → (text : List ℕ) × IsPartSpelling round.format (length round.order) text part
