-- How events are spelled, and what a text of events says.
use Rattle.std.specs.Prelude.{◌≡◌, ◌≤◌, ℕ, List, [], ◌∷◌, ◌++◌, map, length, codes, decimal, ⊤}
use Rattle.std.specs.List.{AllByRecursion, flat_map, join_with_byte}
use Rattle.certificate_data.specs.declared.format.Format.{Format}
use Rattle.certificate_lines.specs.Lines.{most}
use Rattle.certificate_lines.specs.Items.{groups_wanted}
use Rattle.certificate_lines.specs.Fitting.{AllFit}
use Rattle.county_codes.specs.Digits.{five_digits}
use Rattle.certificate_lines.specs.Spelling.{text_of_items}
use Rattle.certificate_lines.specs.declared.item.Item.{Item}
use Rattle.certificate_lines.specs.declared.item.Item.TheVariants.{Grouped}
use Rattle.certificate_lines.specs.declared.item.Wanted.{Wanted}
use Rattle.certificate_lines.specs.declared.item.Wanted.TheVariants as want
use Rattle.certificate_text.specs.Trees.{items_of_tree}
use Rattle.board_laws.specs.Content.{Event, hand, result, split_piece, part_piece, better, wider}
use Rattle.partial_trees.specs.OpenBranches.{BranchesAreOpen}
use Rattle.partial_text.specs.PartItems.{items_of_part}
use Rattle.board_report.specs.EventLines.{greatest}
use Rattle.board_report.specs.declared.event_line.EventLine.{EventLine}
use Rattle.board_report.specs.declared.event_line.EventLine.TheVariants as says

-- the words of the first line of an event
abbrev pub event_words : EventLine → List (List ℕ)
event_words (says.Hand from) = codes "hand" ∷ decimal from ∷ []
event_words (says.Result round piece) = codes "result" ∷ decimal round ∷ decimal piece ∷ []
event_words (says.Split round piece county limit) =
    codes "split" ∷ decimal round ∷ decimal piece ∷ five_digits county ∷ decimal limit ∷ []
event_words (says.Part round piece) = codes "part" ∷ decimal round ∷ decimal piece ∷ []
event_words (says.Better round groups) = codes "better" ∷ decimal round ∷ decimal groups ∷ []
event_words (says.Wider round) = codes "wider" ∷ decimal round ∷ []

-- the line: its words with one blank between them, and an LF
abbrev pub event_line : EventLine → List ℕ
event_line line = join_with_byte 32 (event_words line) ++ codes "\n"

-- the numbers of the line are in their ranges
abbrev pub FitsLine : EventLine → Type 0
FitsLine (says.Hand from) = from ≤ greatest
FitsLine (says.Result round piece) = (round ≤ greatest) × (piece ≤ greatest)
FitsLine (says.Split round piece county limit) =
    (round ≤ greatest) × (piece ≤ greatest) × (county ≤ 99999) × (1 ≤ limit) × (limit ≤ most)
FitsLine (says.Part round piece) = (round ≤ greatest) × (piece ≤ greatest)
FitsLine (says.Better round groups) = (round ≤ greatest) × (groups ≤ most)
FitsLine (says.Wider round) = round ≤ greatest

-- the first line of an event, and the items of the lines behind it: a tree's, a partial tree's, or groups
abbrev pub line_of_event : Event → EventLine
line_of_event (hand from) = says.Hand from
line_of_event (result round piece tree) = says.Result round piece
line_of_event (split_piece round piece county limit) = says.Split round piece county limit
line_of_event (part_piece round piece tree) = says.Part round piece
line_of_event (better round grouping) = says.Better round (length grouping)
line_of_event (wider round) = says.Wider round

abbrev pub items_of : Event → List Item
items_of (hand from) = []
items_of (result round piece tree) = items_of_tree tree
items_of (split_piece round piece county limit) = []
items_of (part_piece round piece tree) = items_of_part tree
items_of (better round grouping) = map Grouped grouping
items_of (wider round) = []

-- what is wanted behind a first line, where trees are of a format and for this number of counties
abbrev pub wanted_by : Format → ℕ → EventLine → List Wanted
wanted_by format counties (says.Hand from) = []
wanted_by format counties (says.Result round piece) = want.Tree format counties ∷ []
wanted_by format counties (says.Split round piece county limit) = []
wanted_by format counties (says.Part round piece) = want.Part format counties ∷ []
wanted_by format counties (says.Better round groups) = groups_wanted groups
wanted_by format counties (says.Wider round) = []

-- the text of an event, and of events one after the other
abbrev pub text_of_event : Event → List ℕ
text_of_event event = event_line (line_of_event event) ++ text_of_items (items_of event)

abbrev pub text_of_events : List Event → List ℕ
text_of_events events = flat_map text_of_event events

-- In a part each branch has an open leaf, so that a tree without one stands as a whole. Other events have one form.
abbrev pub HasForm : Event → Type 0
HasForm (part_piece round piece tree) = BranchesAreOpen tree
HasForm event = ⊤

-- all numbers of the event are in the ranges of their lines, and its tree's branches are not too deep
pub record HasSpelling (format : Format) (counties : ℕ) (event : Event) : Type 0 where
  pub line : FitsLine (line_of_event event)
  pub items : AllFit (wanted_by format counties (line_of_event event)) (items_of event)
  pub form : HasForm event

-- the text is that of the events, one after the other, and each has a spelling
pub record EventsAreSpelled (format : Format) (counties : ℕ) (text : List ℕ) (events : List Event) : Type 0 where
  pub fit : AllByRecursion (HasSpelling format counties) events
  pub text_is : text ≡ text_of_events events
