use Rattle.std.proofs.Common.{◌≡◌, ◌∙◌, ℕ, List, [], ◌∷◌, ◌++◌, Option, None, Some, map, refl, ap, sym, subst, arith, rules}
use Rattle.std.specs.List.{flat_map}
use Rattle.certificate_lines.specs.Items.{by_words}
use Rattle.certificate_lines.specs.Lines as line
use Rattle.certificate_lines.specs.Rest.{TakesTextLine}
use Rattle.certificate_lines.specs.Reading.{ReadsItems}
use Rattle.certificate_lines.specs.declared.item.Opening.{Opening}
use Rattle.certificate_lines.specs.declared.item.Opening.TheVariants as opening
use Rattle.certificate_lines.specs.declared.item.Item.{Item}
use Rattle.certificate_lines.specs.declared.item.Item.TheVariants as item
use Rattle.certificate_lines.specs.declared.item.Wanted.TheVariants as want
use Rattle.certificate_text.proofs.TreeViews.{bound_items}
use Rattle.certificate_text.proofs.LoopLaws.{after_raise-le}
use Rattle.partial_trees.specs.declared.tree.PartialTake.{PartialTake, roll-PartialTake, out-roll-PartialTake}
use Rattle.partial_trees.specs.PartialValue.{partial_of, list_of_begun}
use Rattle.partial_trees.specs.OpenBranches.{BranchesAreOpen, BranchesOfTakesAreOpen}
use Rattle.partial_text.specs.Reading.{part_branch_items}
use Rattle.partial_text.proofs.PartLists.{begun_more}
use Rattle.partial_text.specs.PartItems.{items_of_part, items_of_begun}
use Rattle.partial_text.proofs.ReadSteps.{take_step, takes_end, branch_step, leaf_ended, more_end, ended}
use Rattle.certificate_data.specs.TreeValue.{leaf_of}
use Rattle.certificate_data.specs.declared.tree.Leaf.TheVariants.{Bound}
use Rattle.certificate_text.specs.Trees.{leaf_items}
use Rattle.partial_text.proofs.reading.+part_lines.Goals as goal

pub part_at-returns-in_default-clause-read : goal.part_at-returns-in_default-clause-read
part_at-returns-in_default-clause-read t c =
    let none : c.in_ok-opening.field-0 ≡ None = search rules in
    let line_taken = subst (λ (r : Option Opening). TakesTextLine (by_words (line.part_on c.args.format c.branching.levels)) r c.branching.cursor c.part_opening.new.self) none c.in_ok-opening.ensures.read in
    leaf_ended c.args.format (want.Part c.args.format c.args.levels ∷ []) c.args.cursor.now c.branching.levels (flat_map part_branch_items (c.branching.branches.items ++ c.branching.later.items)) None c.branching.cursor c.part_opening.new.self
    c.with_open_leaf.result c.branching.invariant.read line_taken refl c.with_open_leaf.ensures.items c.with_open_leaf.ensures.refused

pub part_at-branching-preserved : goal.part_at-branching-preserved
part_at-branching-preserved t c =
    let k = c.branching.levels in
    let old = c.branching.cursor in
    let mid = c.part_opening.new.self in
    let a = want.Part c.args.format c.args.levels ∷ [] in
    let line_taken = subst (λ (r : Option Opening). TakesTextLine (by_words (line.part_on c.args.format k)) r old mid) (c.in-Some.is ∙ ap (λ (o : Opening). Some o) c.in-Branch.is) c.in_ok-opening.ensures.read in
    let here = c.in_ok-takes-in-Branch.ensures in
    let kept = c.in_ok-keep_branch-in-Branch.ensures in
    let is : c.keep_branch.new.branches.items ++ c.keep_branch.new.later.items ≡ (c.branching.branches.items ++ c.branching.later.items) ++ _ ∷ [] = kept.kept in
    record {
      read =
          subst (λ (l : ℕ). ReadsItems a c.args.cursor.now (flat_map part_branch_items (c.keep_branch.new.branches.items ++ c.keep_branch.new.later.items)) (want.Part c.args.format l ∷ []) c.takes_at.new.cursor) (sym c.levels_after-levels.ensures)
          (branch_step c.args.format a c.args.cursor.now k c.in-Branch.county c.in-Branch.limit old mid c.takes_at.new.cursor (c.branching.branches.items ++ c.branching.later.items) (c.keep_branch.new.branches.items ++ c.keep_branch.new.later.items) c.in_ok-takes-in-Branch.takes c.branching.invariant.read line_taken here.read is);
      stay = kept.stay;
      before = kept.before;
      whole = kept.whole;
      levels = omega (arith, c.levels_after-levels.ensures, after_raise-le c.args.format k, c.branching.invariant.levels);
      rest = omega (arith, line_taken.shorter, here.rest, c.branching.invariant.rest);
    }

pub part_at-returns-in-Stuck-clause-read : goal.part_at-returns-in-Stuck-clause-read
part_at-returns-in-Stuck-clause-read t c =
    let line_taken = subst (λ (r : Option Opening). TakesTextLine (by_words (line.part_on c.args.format c.branching.levels)) r c.branching.cursor c.part_opening.new.self) (c.in-Some.is ∙ ap (λ (o : Opening). Some o) c.in-Stuck.is) c.in_ok-opening.ensures.read in
    leaf_ended c.args.format (want.Part c.args.format c.args.levels ∷ []) c.args.cursor.now c.branching.levels (flat_map part_branch_items (c.branching.branches.items ++ c.branching.later.items)) (Some (opening.Stuck c.in-Stuck.county)) c.branching.cursor
    c.part_opening.new.self c.with_leaf.result c.branching.invariant.read line_taken refl c.with_leaf.ensures.items c.with_leaf.ensures.refused

pub part_at-returns-in-Seats-clause-read : goal.part_at-returns-in-Seats-clause-read
part_at-returns-in-Seats-clause-read t c =
    let line_taken = subst (λ (r : Option Opening). TakesTextLine (by_words (line.part_on c.args.format c.branching.levels)) r c.branching.cursor c.part_opening.new.self) (c.in-Some.is ∙ ap (λ (o : Opening). Some o) c.in-Seats.is) c.in_ok-opening.ensures.read in
    leaf_ended c.args.format (want.Part c.args.format c.args.levels ∷ []) c.args.cursor.now c.branching.levels (flat_map part_branch_items (c.branching.branches.items ++ c.branching.later.items)) (Some opening.Seats) c.branching.cursor c.part_opening.new.self
    c.with_leaf-in-Seats.result c.branching.invariant.read line_taken refl c.with_leaf-in-Seats.ensures.items c.with_leaf-in-Seats.ensures.refused

pub part_at-returns-in-Bound-clause-read : goal.part_at-returns-in-Bound-clause-read
part_at-returns-in-Bound-clause-read t c =
    let k = c.branching.levels in
    let old = c.branching.cursor in
    let mid = c.part_opening.new.self in
    let new = c.allowances_at.new.cursor in
    let xs = flat_map part_branch_items (c.branching.branches.items ++ c.branching.later.items) in
    let lines = c.in_ok-lines-in-Bound.lines in
    let here = c.in_ok-lines-in-Bound.ensures in
    let inside = map item.Allows lines.items in
    let items = xs ++ leaf_items (leaf_of (Bound lines)) in
    let line_taken = subst (λ (r : Option Opening). TakesTextLine (by_words (line.part_on c.args.format k)) r old mid) (c.in-Some.is ∙ ap (λ (o : Opening). Some o) c.in-Bound.is) c.in_ok-opening.ensures.read in
    let a = want.Part c.args.format c.args.levels ∷ [] in
    ended a (λ p. items_of_part (partial_of p)) items [] c.args.cursor.now new c.with_leaf-in-Bound.result c.with_leaf-in-Bound.ensures.items c.with_leaf-in-Bound.ensures.refused
    (more_end c.args.format a c.args.cursor.now k xs (Some (opening.Bound c.in-Bound.count)) old mid new inside items [] c.branching.invariant.read line_taken here.read
    (ap (λ (l : List Item). xs ++ l) (bound_items lines.items) ∙ ap (λ (n : ℕ). xs ++ item.Opens (opening.Bound n) ∷ inside) here.number))

pub takes_at-taking-preserved : goal.takes_at-taking-preserved
takes_at-taking-preserved t c =
    let line_taken = subst (λ (r : Option (List ℕ)). TakesTextLine (by_words line.take_on) r c.taking.cursor c.take.new.self) c.in-Some.is c.in_ok-codes.ensures in
    let here = c.in_ok-tree.ensures in
    let pushed = c.in_ok-push_on.ensures.pushed in
    let tree = c.in_ok-tree.tree in
    let fields = out-roll-PartialTake (record { codes = c.in-Some.codes; tree = tree }) in
    let last = roll-PartialTake (record { codes = c.in-Some.codes; tree = tree }) in
    record {
      read = take_step c.args.format c.args.levels c.args.cursor.now c.in-Some.codes tree c.taking.cursor c.take.new.self c.part_at.new.cursor c.taking.takes.items c.push_on.new.items.items c.taking.invariant.read line_taken here.read pushed;
      opened =
          subst (λ (l : List PartialTake). BranchesOfTakesAreOpen (list_of_begun l)) (sym pushed)
          (begun_more c.taking.takes.items last c.taking.invariant.opened (subst (λ z. BranchesAreOpen (partial_of z.tree)) (sym fields) here.opened));
      rest = omega (arith, line_taken.shorter, here.rest, c.taking.invariant.rest);
    }

pub takes_at-returns-clause-read : goal.takes_at-returns-clause-read
takes_at-returns-clause-read t c =
    let none : c.in_ok-codes.field-0 ≡ None = search rules in
    takes_end c.args.format c.args.levels c.args.cursor.now c.taking.cursor c.take.new.self (items_of_begun (list_of_begun c.taking.takes.items)) c.taking.invariant.read (subst (λ (r : Option (List ℕ)). TakesTextLine (by_words line.take_on) r c.taking.cursor c.take.new.self) none c.in_ok-codes.ensures)
