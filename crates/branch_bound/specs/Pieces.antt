-- What a solver answers of a piece of a round: a state.
use Rattle.std.specs.Prelude.{Some, None, ⊤}
use Rattle.grouping_laws.specs.Problem.{Problem}
use Rattle.certificate_data.specs.TreeValue.{tree_of}
use Rattle.certificate_data.specs.Round.{Round}
use Rattle.certificate_laws.specs.Certificate.{HasGroupsWithin}
use Rattle.certificate_laws.specs.State.{State}
use Rattle.certificate_laws.specs.Proving.{Proves}
use Rattle.certificate_laws.specs.Search.{IsFound}
use Rattle.certificate_text.specs.TreeItems.{HasLines, HasTargetLines}
use Rattle.board_laws.specs.PartialTrees.{IsPart}
use Rattle.partial_trees.specs.PartialValue.{partial_of}
use Rattle.partial_trees.specs.Refusals.{IsPartProof}
use Rattle.partial_trees.specs.OpenBranches.{BranchesAreOpen}
use Rattle.branch_bound.specs.declared.piece_answer.PieceAnswer.{PieceAnswer}
use Rattle.branch_bound.specs.declared.piece_answer.PieceAnswer.TheVariants.{Proved, Better, Wider, Open}

-- A proof tree of the state that a text spells, a lawful grouping that agrees with the state and is greater than the
-- target, or a partial tree of the state that texts spell. A grouping that is within the limit is one that a text
-- spells.
abbrev pub IsPieceAnswer : Problem → Round → State → PieceAnswer → Type 0
IsPieceAnswer p round s (Proved tree) = Proves (tree_of tree) p round s × HasLines round.format (tree_of tree)
IsPieceAnswer p round s (Better g) =
    IsFound p round s g.groups.items × HasGroupsWithin round.limit g.groups.items × HasTargetLines g.groups.items
IsPieceAnswer p round s (Wider g) = IsFound p round s g.groups.items × ¬ HasGroupsWithin round.limit g.groups.items
IsPieceAnswer p round s (Open None) = ⊤
IsPieceAnswer p round s (Open (Some part)) =
    IsPart (partial_of part) × IsPartProof p round s (partial_of part) × BranchesAreOpen (partial_of part)

-- the steps ran out
abbrev pub IsOpen : PieceAnswer → Type 0
IsOpen (Proved tree) = ⊥
IsOpen (Better g) = ⊥
IsOpen (Wider g) = ⊥
IsOpen (Open part) = ⊤
