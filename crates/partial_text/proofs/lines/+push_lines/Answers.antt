use Rattle.std.proofs.Common.{◌≡◌, ◌∙◌, ◌∷◌, ◌++◌, [], List, take, ap, sym, arith, take_all}
use Rattle.std.specs.List.{flat_map}
use Rattle.certificate_lines.specs.declared.item.Opening.TheVariants as opening
use Rattle.certificate_lines.specs.declared.item.Item.{Item}
use Rattle.certificate_lines.specs.declared.item.Item.TheVariants as item
use Rattle.partial_trees.specs.declared.tree.PartialTree.{out-PartialTree}
use Rattle.partial_trees.specs.declared.tree.PartialBranch.{PartialBranch, out-PartialBranch}
use Rattle.partial_trees.specs.declared.tree.PartialTake.{PartialTake}
use Rattle.partial_trees.specs.PartialValue.{rest_of, partial_of}
use Rattle.partial_text.specs.PartItems.{items_of_part}
use Rattle.partial_text.specs.Reading.{part_branch_items, part_take_items}
use Rattle.partial_text.proofs.PartLists.{branch_listed, part_listed}
use Rattle.partial_text.proofs.AddsLaws.{adds_after, adds_as, adds_lines, list_adds}
use Rattle.partial_text.proofs.lines.+push_lines.Goals as goal

pub push_branch-taking-preserved : goal.push_branch-taking-preserved
push_branch-taking-preserved t c =
    let b = out-PartialBranch c.args.branch.now in
    list_adds part_take_items (item.Opens (opening.Branch b.county b.limit) ∷ []) c.deref-take-items.result.now c.taking.take-index c.take-item.result c.args.out.now.items c.taking.out.items c.push_take.new.out.items c.take-item.is c.taking-test.true c.taking.invariant c.in_ok-push_take.ensures

pub push_branch-returns : goal.push_branch-returns
push_branch-returns t c =
    let b = c.args.branch.now in
    let written = take c.taking.take-index c.deref-take-items.result.now in
    let items = item.Opens (opening.Branch (out-PartialBranch b).county (out-PartialBranch b).limit) ∷ flat_map part_take_items written in
    let whole = branch_listed b written (take_all c.taking.take-index c.deref-take-items.result.now (omega arith) ∙ c.deref-take-items.ensures.value) in
    adds_as (items ++ item.Mark ∷ []) (part_branch_items b) c.args.out.now.items c.push_mark_line.new.out.items c.push_mark_line.result whole
    (adds_after items (item.Mark ∷ []) c.args.out.now.items c.taking.out.items c.push_mark_line.new.out.items c.push_mark_line.result c.taking.invariant
    (adds_lines (item.Mark ∷ []) c.taking.out.items c.push_mark_line.new.out.items c.push_mark_line.result c.push_mark_line.ensures))

pub push_part-branching-preserved : goal.push_part-branching-preserved
push_part-branching-preserved t c =
    list_adds part_branch_items [] c.deref-branch-items.result.now c.branching.branch-index c.branch-item.result c.args.out.now.items c.branching.out.items c.push_branch.new.out.items c.branch-item.is c.branching-test.true c.branching.invariant c.in_ok-push_branch.ensures

pub push_part-returns : goal.push_part-returns
push_part-returns t c =
    let part = c.args.part.now in
    let written = take c.branching.branch-index c.deref-branch-items.result.now in
    let rest = items_of_part (rest_of (out-PartialTree part).rest) in
    let whole = part_listed part written (take_all c.branching.branch-index c.deref-branch-items.result.now (omega arith) ∙ c.deref-branch-items.ensures.value) in
    adds_as (flat_map part_branch_items written ++ rest) (items_of_part (partial_of part)) c.args.out.now.items c.push_rest.new.out.items c.push_rest.result whole
    (adds_after (flat_map part_branch_items written) rest c.args.out.now.items c.branching.out.items c.push_rest.new.out.items c.push_rest.result c.branching.invariant c.push_rest.ensures)
