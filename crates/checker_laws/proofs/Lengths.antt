-- A certificate has an item for each of its lines.
use Rattle.std.proofs.Common.{◌≡◌, ◌+◌, [], ◌∷◌, ◌++◌, length, Option, Some, None, arith, length-append}
use Rattle.county_codes.specs.declared.tolerance.Tolerance.{Tolerance}
use Rattle.grouping_laws.specs.Grouping.{Grouping}
use Rattle.certificate_data.specs.declared.format.Format.{Format}
use Rattle.certificate_data.specs.Tree.{stuck, seats, bound, Tree, leaf, branch, Takes, no_take, take}
use Rattle.checker_laws.specs.Lines.{tolerance_line, tree_lines, takes_lines, target_lines, certificate_lines}
use Rattle.certificate_lines.specs.declared.item.Item.TheVariants as item
use Rattle.certificate_lines.proofs.FormLaws.{length_map}
use Rattle.certificate_data.specs.TreeValue.{Certificate, declared_allowance}
use Rattle.certificate_text.specs.Trees.{items_of_tree, items_of_takes, items_of_head, items_of_target, items_of_certificate}

mutual
  pub tree_length : (t : Tree) → length (items_of_tree t) ≡ tree_lines t
  tree_length (leaf (stuck county)) = omega arith
  tree_length (leaf seats) = omega arith
  tree_length (leaf (bound lines)) = omega (arith, length_map (λ a. item.Allows (declared_allowance a)) lines)
  tree_length (branch county limit takes raised) = omega (arith, length-append (items_of_takes takes) (item.Mark ∷ items_of_tree raised), takes_length takes, tree_length raised)

  -- with the mark
  takes_length : (ts : Takes) → length (items_of_takes ts) + 1 ≡ takes_lines ts
  takes_length no_take = omega arith
  takes_length (take codes tree others) = omega (arith, length-append (items_of_tree tree) (items_of_takes others), tree_length tree, takes_length others)

pub target_length : (target : Option Grouping) → length (items_of_target target) ≡ 1 + target_lines target
target_length None = omega arith
target_length (Some groups) = omega (arith, length_map item.Grouped groups)

pub head_length : (format : Format) (tolerance : Option Tolerance) → length (items_of_head format tolerance) ≡ tolerance_line tolerance
head_length format None = omega arith
head_length format (Some tolerance) = omega arith

pub certificate_length : (c : Certificate) → length (items_of_certificate c) ≡ certificate_lines c.round c.tree
certificate_length c =
    omega (arith, length-append (items_of_head c.round.format c.round.tolerance) (item.Order c.round.order ∷ item.Limit c.round.limit ∷ (items_of_target c.round.target ++ (items_of_tree c.tree ++ item.End ∷ []))), head_length c.round.format c.round.tolerance, length-append (items_of_target c.round.target) (items_of_tree c.tree ++ item.End ∷ []), length-append (items_of_tree c.tree) (item.End ∷ []), target_length c.round.target, tree_length c.tree)
