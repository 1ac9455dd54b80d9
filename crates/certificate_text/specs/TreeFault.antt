-- The first fault of the lines of a tree.
use Rattle.std.specs.Prelude.{◌≡◌, ℕ, List, Some}
use Rattle.certificate_data.specs.Tree.{Tree}
use Rattle.certificate_data.specs.declared.format.Format.{Format}
use Rattle.certificate_lines.specs.ItemReadings.{tree_reading}
use Rattle.certificate_lines.specs.Spelling.{text_of_items}
use Rattle.certificate_lines.specs.declared.fault.TextFault.{TextFault}
use Rattle.certificate_text.specs.Trees.{items_of_tree}

-- the lines of a tree
abbrev pub lines_of_tree : Tree → List ℕ
lines_of_tree tree = text_of_items (items_of_tree tree)

-- the first fault that the lines of the tree would meet, where they are read for an order of `counties` counties
abbrev pub HasTreeFault : Format → ℕ → Tree → TextFault → Type 0
HasTreeFault format counties tree fault = (tree_reading format counties (lines_of_tree tree)).fault ≡ Some fault
