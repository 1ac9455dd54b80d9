-- What is spelled by a text.
use Rattle.std.specs.Prelude.{◌≡◌, ℕ, List, [], ◌∷◌}
use Rattle.certificate_data.specs.declared.format.Format.{Format}
use Rattle.certificate_lines.specs.declared.item.Wanted.TheVariants as want
use Rattle.certificate_lines.specs.Fitting.{AllFit}
use Rattle.certificate_lines.specs.Spelling.{text_of_items}
use Rattle.board_laws.specs.PartialTrees.{PartialTree}
use Rattle.partial_trees.specs.OpenBranches.{BranchesAreOpen}
use Rattle.partial_text.specs.PartItems.{items_of_part}

-- The text is the items of a partial tree line by line, where branches may open `levels` levels, and each item fits. A
-- tree without an open leaf stands as a whole, so that the text tells the partial tree.
pub record IsPartSpelling (format : Format) (levels : ℕ) (text : List ℕ) (t : PartialTree) : Type 0 where
  pub opened : BranchesAreOpen t
  pub fits : AllFit (want.Part format levels ∷ []) (items_of_part t)
  pub text_is : text ≡ text_of_items (items_of_part t)
