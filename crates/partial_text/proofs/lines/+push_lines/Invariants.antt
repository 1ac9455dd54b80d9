use Rattle.std.proofs.Common.{[], ◌∷◌, ◌++◌, take}
use Rattle.std.specs.List.{flat_map}
use Rattle.certificate_lines.specs.declared.item.Opening.TheVariants as opening
use Rattle.certificate_lines.specs.declared.item.Item.TheVariants as item
use Rattle.partial_trees.specs.declared.tree.PartialBranch.{out-PartialBranch}
use Rattle.partial_text.specs.Reading.{part_branch_items, part_take_items}
use Rattle.partial_text.specs.Writing.{AddsLines}
use Rattle.partial_text.proofs.lines.+push_lines.Given as goal

abbrev pub invariant-push_branch-taking : goal.invariant-push_branch-taking
invariant-push_branch-taking l =
    AddsLines (item.Opens (opening.Branch (out-PartialBranch l.branch).county (out-PartialBranch l.branch).limit) ∷ [] ++ flat_map part_take_items (take l.take-index l.take-items)) l.fn.out.items l.out.items

abbrev pub invariant-push_part-branching : goal.invariant-push_part-branching
invariant-push_part-branching l = AddsLines ([] ++ flat_map part_branch_items (take l.branch-index l.branch-items)) l.fn.out.items l.out.items
