-- What a call writes at the end of a text.
use Rattle.std.specs.Prelude.{◌≡◌, ℕ, List, [], ◌∷◌, ◌++◌}
use Rattle.std.specs.List.{AllByRecursion}
use Rattle.certificate_lines.specs.Spelling.{text_of_items}
use Rattle.certificate_lines.specs.declared.item.Opening.TheVariants as opening
use Rattle.certificate_lines.specs.declared.item.Item.{Item}
use Rattle.certificate_lines.specs.declared.item.Item.TheVariants as item
use Rattle.certificate_data.specs.TreeValue.{tree_of, list_of_takes}
use Rattle.certificate_text.specs.Trees.{items_of_tree, items_of_takes}
use Rattle.certificate_data.specs.declared.tree.Branch.{Branch, out-Branch}
use Rattle.certificate_data.specs.declared.tree.Take.{Take, out-Take}
use Rattle.certificate_text.specs.Ranges.{IsInRange}

-- the lines of items were written, and their numbers are in range
pub record Added (items : List Item) (old new : List ℕ) : Type 0 where
  pub text : new ≡ old ++ text_of_items items
  pub range : AllByRecursion IsInRange items

-- the items of a branch up to its mark, and of a take
abbrev pub branch_items : Branch → List Item
branch_items b =
    item.Opens (opening.Branch (out-Branch b).county (out-Branch b).limit)
    ∷ (items_of_takes (list_of_takes (out-Branch b).takes.items) ++ item.Mark ∷ [])

abbrev pub take_items : Take → List Item
take_items t = item.Takes (out-Take t).codes ∷ items_of_tree (tree_of (out-Take t).tree)
