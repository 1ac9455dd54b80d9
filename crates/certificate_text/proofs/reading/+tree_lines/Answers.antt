use Rattle.std.proofs.Common.{◌≡◌, ◌∙◌, ℕ, List, [], ◌∷◌, ◌++◌, Option, None, map, refl, ap, sym, subst, arith, rules}
use Rattle.certificate_lines.specs.Items.{by_words}
use Rattle.certificate_laws.specs.Depth.{after_raise}
use Rattle.certificate_lines.specs.Lines as line
use Rattle.certificate_lines.specs.Rest.{TakesTextLine}
use Rattle.certificate_lines.specs.Reading.{ReadsItems}
use Rattle.certificate_data.specs.TreeValue.{tree_of, list_of_takes}
use Rattle.certificate_text.specs.Trees.{items_of_tree, items_of_takes}
use Rattle.certificate_lines.specs.declared.item.Opening.{Opening}
use Rattle.certificate_lines.specs.declared.item.Opening.TheVariants as opening
use Rattle.certificate_lines.specs.declared.item.Item.{Item}
use Rattle.certificate_lines.specs.declared.item.Item.TheVariants as item
use Rattle.certificate_lines.specs.declared.item.Wanted.TheVariants as want
use Rattle.certificate_data.specs.declared.tree.Branch.{Branch}
use Rattle.certificate_data.specs.declared.tree.Take.{Take}
use Rattle.certificate_data.specs.declared.tree.Leaf.TheVariants.{Stuck, Seats, Bound}
use Rattle.certificate_text.proofs.TreeViews.{items_of_branches, tree_items, bound_items, made_branch, made_take}
use Rattle.certificate_text.proofs.LoopLaws.{take_step, takes_end, branch_step, leaf_end, bound_end, after_raise-le}
use Rattle.certificate_text.proofs.reading.+tree_lines.Goals as goal

pub takes_at-taking-preserved : goal.takes_at-taking-preserved
takes_at-taking-preserved t c =
    let taken = subst (λ (r : Option (List ℕ)). TakesTextLine (by_words line.take_on) r c.taking.cursor c.take.new.self) c.in-Some.is c.in_ok-codes.ensures in
    let here = c.in_ok-tree.ensures in
    record {
      read =
          subst (λ (ts : List Take). ReadsItems (want.Takes c.args.format c.args.levels ∷ []) c.args.cursor.now (items_of_takes (list_of_takes ts)) (want.Takes c.args.format c.args.levels ∷ []) c.tree_at.new.cursor) (sym c.in_ok-push_on.ensures.pushed)
          (take_step c.args.format c.args.levels c.args.cursor.now c.in-Some.codes (items_of_tree (tree_of c.in_ok-tree.tree)) c.taking.cursor c.take.new.self c.tree_at.new.cursor c.taking.takes.items _ c.taking.invariant.read taken here.read (made_take c.in-Some.codes c.in_ok-tree.tree));
      rest = omega (arith, taken.shorter, here.rest, c.taking.invariant.rest);
    }

pub tree_at-branching-preserved : goal.tree_at-branching-preserved
tree_at-branching-preserved t c =
    let opened = c.in_ok-county.ensures in
    let taken = subst (λ (o : Opening). TakesTextLine (by_words (line.opening_on c.args.format c.branching.levels)) o c.branching.cursor c.opening.new.self) c.in-Branch.is opened.read in
    let here = c.in_ok-takes-in-Branch.ensures in
    record {
      read =
          subst (λ (k : ℕ). ReadsItems (want.Tree c.args.format c.args.levels ∷ []) c.args.cursor.now (items_of_branches c.push_on.new.items.items) (want.Tree c.args.format k ∷ []) c.takes_at.new.cursor) (sym c.levels_after-levels.ensures)
          (subst (λ (bs : List Branch). ReadsItems (want.Tree c.args.format c.args.levels ∷ []) c.args.cursor.now (items_of_branches bs) (want.Tree c.args.format (after_raise c.args.format c.branching.levels) ∷ []) c.takes_at.new.cursor) (sym c.in_ok-push_on-in-Branch.ensures.pushed)
          (branch_step c.args.format c.args.levels c.args.cursor.now c.branching.levels c.in-Branch.county c.in-Branch.limit c.branching.cursor c.opening.new.self c.takes_at.new.cursor c.branching.branches.items _ (items_of_takes (list_of_takes c.in_ok-takes-in-Branch.takes.items)) c.branching.invariant.read taken here.read
          (made_branch c.in-Branch.county c.in-Branch.limit c.in_ok-takes-in-Branch.takes)));
      levels = omega (arith, c.levels_after-levels.ensures, after_raise-le c.args.format c.branching.levels, c.branching.invariant.levels);
      rest = omega (arith, taken.shorter, here.rest, c.branching.invariant.rest);
    }

pub tree_at-returns-in-Stuck-clause-read : goal.tree_at-returns-in-Stuck-clause-read
tree_at-returns-in-Stuck-clause-read t c =
    let opened = c.in_ok-county.ensures in
    let taken = subst (λ (o : Opening). TakesTextLine (by_words (line.opening_on c.args.format c.branching.levels)) o c.branching.cursor c.opening.new.self) c.in-Stuck.is opened.read in
    leaf_end c.args.format c.args.levels c.args.cursor.now c.branching.levels (opening.Stuck c.in-Stuck.county) c.branching.cursor c.opening.new.self c.branching.branches.items _ c.branching.invariant.read taken refl (tree_items c.branching.branches (Stuck c.in-Stuck.county))

pub tree_at-returns-in-Seats-clause-read : goal.tree_at-returns-in-Seats-clause-read
tree_at-returns-in-Seats-clause-read t c =
    let opened = c.in_ok-county.ensures in
    let taken = subst (λ (o : Opening). TakesTextLine (by_words (line.opening_on c.args.format c.branching.levels)) o c.branching.cursor c.opening.new.self) c.in-Seats.is opened.read in
    leaf_end c.args.format c.args.levels c.args.cursor.now c.branching.levels opening.Seats c.branching.cursor c.opening.new.self c.branching.branches.items _ c.branching.invariant.read taken refl (tree_items c.branching.branches Seats)

pub tree_at-returns-in-Bound-clause-read : goal.tree_at-returns-in-Bound-clause-read
tree_at-returns-in-Bound-clause-read t c =
    let opened = c.in_ok-county.ensures in
    let taken = subst (λ (o : Opening). TakesTextLine (by_words (line.opening_on c.args.format c.branching.levels)) o c.branching.cursor c.opening.new.self) c.in-Bound.is opened.read in
    let here = c.in_ok-allowances-in-Bound.ensures in
    let lines = c.in_ok-allowances-in-Bound.allowances in
    bound_end c.args.format c.args.levels c.args.cursor.now c.branching.levels c.in-Bound.count c.branching.cursor c.opening.new.self c.allowances_at.new.cursor c.branching.branches.items (map item.Allows lines.items) _ c.branching.invariant.read taken here.read
    (tree_items c.branching.branches (Bound lines) ∙ ap (λ (l : List Item). items_of_branches c.branching.branches.items ++ l) (bound_items lines.items) ∙ ap (λ (n : ℕ). items_of_branches c.branching.branches.items ++ item.Opens (opening.Bound n) ∷ map item.Allows lines.items) here.number)

pub takes_at-returns-clause-read : goal.takes_at-returns-clause-read
takes_at-returns-clause-read t c =
    let none : c.in_ok-codes.field-0 ≡ None = search rules in
    takes_end c.args.format c.args.levels c.args.cursor.now c.taking.cursor c.take.new.self c.taking.takes.items c.taking.invariant.read (subst (λ (r : Option (List ℕ)). TakesTextLine (by_words line.take_on) r c.taking.cursor c.take.new.self) none c.in_ok-codes.ensures)
