-- The items that partial trees are spelled by.
use Rattle.std.specs.Prelude.{List, [], ◌∷◌, ◌++◌}
use Rattle.certificate_lines.specs.declared.item.Opening.TheVariants as opening
use Rattle.certificate_lines.specs.declared.item.Item.{Item}
use Rattle.certificate_lines.specs.declared.item.Item.TheVariants as item
use Rattle.certificate_text.specs.Trees.{items_of_tree}
use Rattle.board_laws.specs.PartialTrees.{PartialTree, open_leaf, whole, begun, PartialTakes, no_begun, take_begun}

-- the items of a partial tree, in the order of its lines
abbrev mutual
  pub items_of_part : PartialTree → List Item
  items_of_part open_leaf = item.Open ∷ []
  items_of_part (whole tree) = items_of_tree tree
  items_of_part (begun county limit takes raised) =
      item.Opens (opening.Branch county limit) ∷ (items_of_begun takes ++ item.Mark ∷ items_of_part raised)

  pub items_of_begun : PartialTakes → List Item
  items_of_begun no_begun = []
  items_of_begun (take_begun codes tree others) = item.Takes codes ∷ (items_of_part tree ++ items_of_begun others)
