-- The items that trees and certificates are spelled by.
use Rattle.std.specs.Prelude.{List, [], ◌∷◌, ◌++◌, map, length, Option, Some, None}
use Rattle.county_codes.specs.declared.tolerance.Tolerance.{Tolerance}
use Rattle.grouping_laws.specs.Grouping.{Grouping}
use Rattle.certificate_data.specs.declared.format.Format.{Format}
use Rattle.certificate_data.specs.Tree.{Leaf, stuck, seats, bound, Tree, leaf, branch, Takes, no_take, take}
use Rattle.certificate_lines.specs.declared.item.Version.TheVariants.{One, Two}
use Rattle.certificate_lines.specs.declared.item.Opening.TheVariants as opening
use Rattle.certificate_lines.specs.declared.item.Item.{Item}
use Rattle.certificate_lines.specs.declared.item.Item.TheVariants as item
use Rattle.certificate_data.specs.TreeValue.{declared_allowance, Certificate}

abbrev pub leaf_items : Leaf → List Item
leaf_items (stuck county) = item.Opens (opening.Stuck county) ∷ []
leaf_items seats = item.Opens opening.Seats ∷ []
leaf_items (bound lines) =
    item.Opens (opening.Bound (length lines)) ∷ map (λ a. item.Allows (declared_allowance a)) lines

-- the items of a tree, in the order of its lines
abbrev mutual
  pub items_of_tree : Tree → List Item
  items_of_tree (leaf last) = leaf_items last
  items_of_tree (branch county limit takes raised) =
      item.Opens (opening.Branch county limit) ∷ (items_of_takes takes ++ item.Mark ∷ items_of_tree raised)

  pub items_of_takes : Takes → List Item
  items_of_takes no_take = []
  items_of_takes (take codes tree others) = item.Takes codes ∷ (items_of_tree tree ++ items_of_takes others)

-- the head, and the tolerance on the second line if one is named
abbrev pub items_of_head : Format → Option Tolerance → List Item
items_of_head format None = item.Head format One ∷ []
items_of_head format (Some tolerance) = item.Head format Two ∷ item.Within tolerance ∷ []

-- the items of a target
abbrev pub items_of_target : Option Grouping → List Item
items_of_target None = item.Target None ∷ []
items_of_target (Some groups) = item.Target (Some (length groups)) ∷ map item.Grouped groups

-- the items of a certificate
abbrev pub items_of_certificate : Certificate → List Item
items_of_certificate c =
    items_of_head c.round.format c.round.tolerance
    ++ (item.Order c.round.order ∷ item.Limit c.round.limit
    ∷ (items_of_target c.round.target ++ (items_of_tree c.tree ++ item.End ∷ [])))
