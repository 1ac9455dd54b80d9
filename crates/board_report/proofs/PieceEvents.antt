-- A text spells the event that gives a solver's answer to a board.
use Rattle.std.proofs.Common.{◌≤◌, ℕ, List, [], ◌++◌, map, length, append-nil, refl, subst, arith, Some, None}
use Rattle.certificate_lines.specs.Fitting.{AllFit}
use Rattle.certificate_lines.specs.Items.{groups_wanted}
use Rattle.certificate_lines.specs.Lines.{most}
use Rattle.certificate_lines.specs.declared.item.Item.{Item}
use Rattle.certificate_lines.specs.declared.item.Item.TheVariants.{Grouped}
use Rattle.certificate_lines.specs.declared.item.Wanted.{Wanted}
use Rattle.grouping_laws.specs.Problem.{Problem, IsProblem}
use Rattle.grouping_laws.specs.Grouping.{Grouping}
use Rattle.grouping_laws.specs.GroupsFrom.{IsOrder}
use Rattle.certificate_data.specs.Round.{Round}
use Rattle.certificate_data.specs.declared.format.Format.TheVariants.{Wide}
use Rattle.certificate_laws.specs.State.{State, IsState, empty_state}
use Rattle.certificate_laws.proofs.Branches.{branch_keeps_state}
use Rattle.certificate_data.specs.TreeValue.{tree_of}
use Rattle.certificate_text.specs.TreeItems.{HasTargetLines}
use Rattle.certificate_text.proofs.ItemsFit.{target_fits}
use Rattle.certificate_text.proofs.Texts.{have_texts}
use Rattle.board_laws.specs.PartialTrees.{PartialTree}
use Rattle.board_laws.specs.Content.{part_piece}
use Rattle.branch_bound.specs.Resuming.{proving_round, IsBestPart}
use Rattle.branch_bound.specs.Pieces.{IsPieceAnswer}
use Rattle.branch_bound.proofs.Rounds.{listed_order}
use Rattle.branch_bound.specs.declared.piece_answer.PieceAnswer.{PieceAnswer}
use Rattle.branch_bound.specs.declared.piece_answer.PieceAnswer.TheVariants.{Proved, Better, Wider, Open}
use Rattle.board_report.specs.EventLines.{greatest}
use Rattle.board_report.specs.EventSpelling.{HasSpelling}
use Rattle.partial_text.proofs.PartTexts.{have_texts as have_texts_of_parts}
use Rattle.partial_trees.specs.PartialValue.{partial_of}
use Rattle.board_report.specs.PieceText.{HasText}

groups_fit : (g : Grouping) → HasTargetLines g → AllFit (groups_wanted (length g)) (map Grouped g)
groups_fit g lines =
    subst (λ (z : List Wanted). AllFit z (map Grouped g)) (append-nil (groups_wanted (length g)))
    (subst (λ (z : List Item). AllFit (groups_wanted (length g) ++ []) z) (append-nil (map Grouped g)) (target_fits (Some g) [] [] lines tt).1)

pub has_text : (p : Problem) (round : Round) (s : State) (number : ℕ) (answer : PieceAnswer) → IsOrder p round.order → IsState p round s → round.limit ≤ most → number ≤ greatest → IsPieceAnswer p round s answer
    → HasText round.format (length round.order) number answer
has_text p round s number (Proved tree) order state small few is r low = record { line = (low, few); items = have_texts.tree p round s (tree_of tree) order state is.0 is.1; form = tt }
has_text p round s number (Better g) order state small few is r low = record { line = (low, is.2.few); items = groups_fit g.groups.items is.2; form = tt }
has_text p round s number (Wider g) order state small few is r low = record { line = low; items = tt; form = tt }
has_text p round s number (Open None) order state small few is r low = tt
has_text p round s number (Open (Some part)) order state small few is r low = record {
  line = (low, few);
  items = (have_texts_of_parts p round s (partial_of part) order state is.1.0 is.1.1 is.2).1.fits;
  form = is.2;
}

-- the text of the events by which a board goes on spells them
pub resumes : (p : Problem) (g : Grouping) (part : PartialTree) → IsProblem p → IsBestPart p g part → HasSpelling Wide (length p.counties) (part_piece 1 1 part)
resumes p g part is best = record {
  line = (omega arith, omega arith);
  items = (have_texts_of_parts p (proving_round p g) (empty_state p) part (listed_order p p.counties is refl) ((branch_keeps_state).first_state p (proving_round p g)) best.2.0 best.2.1 best.3).1.fits;
  form = best.3;
}
