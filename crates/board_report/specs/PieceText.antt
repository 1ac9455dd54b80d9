-- What is printed of the answer of a solver.
use Rattle.std.specs.Prelude.{ℕ, ◌≤◌, List, codes, Option, Some, None, IfSome}
use Rattle.certificate_data.specs.declared.format.Format.{Format}
use Rattle.certificate_data.specs.TreeValue.{tree_of}
use Rattle.board_laws.specs.Content.{Event, result, part_piece, better, wider}
use Rattle.partial_trees.specs.PartialValue.{partial_of}
use Rattle.branch_bound.specs.declared.piece_answer.PieceAnswer.{PieceAnswer}
use Rattle.branch_bound.specs.declared.piece_answer.PieceAnswer.TheVariants.{Proved, Better, Wider, Open}
use Rattle.board_report.specs.EventLines.{greatest}
use Rattle.board_report.specs.EventSpelling.{text_of_event, HasSpelling}

-- the event that gives the answer to a board, for a round and a piece of these numbers; none, if no branch was begun
abbrev pub event_in : ℕ → ℕ → PieceAnswer → Option Event
event_in round number (Proved tree) = Some (result round number (tree_of tree))
event_in round number (Better g) = Some (better round g.groups.items)
event_in round number (Wider g) = Some (wider round)
event_in round number (Open (Some part)) = Some (part_piece round number (partial_of part))
event_in round number (Open None) = None

-- the text of an event, or `open` if there is none
abbrev pub told : Option Event → List ℕ
told (Some event) = text_of_event event
told None = codes "open\n"

abbrev pub piece_text_of : ℕ → ℕ → PieceAnswer → List ℕ
piece_text_of round number answer = told (event_in round number answer)

-- whatever the number of the round, a text spells the event, if there is one
abbrev pub HasText : Format → (counties number : ℕ) → PieceAnswer → Type 0
HasText format counties number answer =
    (round : ℕ) → round ≤ greatest → IfSome (event_in round number answer) (HasSpelling format counties)
