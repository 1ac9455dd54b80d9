-- What the lines of a tree spell.
use Rattle.std.specs.Prelude.{◌≡◌, ◌≢◌, ℕ, List, None, ◌⊎◌}
use Rattle.certificate_data.specs.Tree.{Tree}
use Rattle.certificate_data.specs.declared.format.Format.{Format}
use Rattle.certificate_lines.specs.ItemReadings.{tree_reading}
use Rattle.certificate_lines.specs.declared.fault.TextKind.TheVariants.{ReadFault, Memory}
use Rattle.certificate_lines.specs.declared.fault.TextFault.{TextFault}
use Rattle.certificate_text.specs.Trees.{items_of_tree}
use Rattle.certificate_text.specs.Spelling.{IsTreeSpelling}
use Rattle.certificate_text.specs.Ranges.{AreTreeNumbers}
use Rattle.certificate_text.specs.TreeFault.{lines_of_tree, HasTreeFault}

-- The lines of a tree either spell it or have a fault.
pub record TreesSpell : Type 0 where
  -- lines without a fault spell the tree, and their items are the tree's
  pub spelled : (format : Format) (counties : ℕ) (tree : Tree) → AreTreeNumbers tree
      → (tree_reading format counties (lines_of_tree tree)).fault ≡ None
      → IsTreeSpelling format counties (lines_of_tree tree) tree
      × ((tree_reading format counties (lines_of_tree tree)).items ≡ items_of_tree tree)
  -- a text that spells a tree has its items, and no fault
  pub spelling : (format : Format) (counties : ℕ) (text : List ℕ) (tree : Tree)
      → IsTreeSpelling format counties text tree
      → ((tree_reading format counties text).items ≡ items_of_tree tree)
      × ((tree_reading format counties text).fault ≡ None)
  -- no text spells a tree whose lines have a fault
  pub unspelled : (format : Format) (counties : ℕ) (tree : Tree) (fault : TextFault)
      → HasTreeFault format counties tree fault → (text : List ℕ) → ¬ IsTreeSpelling format counties text tree
  -- the lines of a tree spell it or have a fault
  pub either : (format : Format) (counties : ℕ) (tree : Tree) → AreTreeNumbers tree
      → IsTreeSpelling format counties (lines_of_tree tree) tree
      ⊎ ((fault : TextFault) × HasTreeFault format counties tree fault)
  -- the lines of a tree alone decide their fault, and no memory that was refused or source that could not be read
  pub faults : (format : Format) (counties : ℕ) (tree : Tree) (fault : TextFault)
      → HasTreeFault format counties tree fault → (fault.kind ≢ Memory) × (fault.kind ≢ ReadFault)
