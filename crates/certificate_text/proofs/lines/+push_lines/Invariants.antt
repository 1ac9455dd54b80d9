use Rattle.std.proofs.Common.{[], ◌∷◌, ◌++◌, take}
use Rattle.std.specs.List.{flat_map}
use Rattle.certificate_lines.specs.declared.item.Opening.TheVariants as opening
use Rattle.certificate_lines.specs.declared.item.Item.TheVariants as item
use Rattle.certificate_data.specs.declared.tree.Branch.{out-Branch}
use Rattle.certificate_text.specs.Writing.{Added, branch_items, take_items}
use Rattle.certificate_text.proofs.lines.+push_lines.Given as goal

abbrev pub invariant-push_branch-taking : goal.invariant-push_branch-taking
invariant-push_branch-taking l =
    Added (item.Opens (opening.Branch (out-Branch l.branch).county (out-Branch l.branch).limit) ∷ [] ++ flat_map take_items (take l.take-index l.take-items)) l.fn.out.items l.out.items

abbrev pub invariant-push_tree-branching : goal.invariant-push_tree-branching
invariant-push_tree-branching l = Added ([] ++ flat_map branch_items (take l.branch-index l.branch-items)) l.fn.out.items l.out.items
