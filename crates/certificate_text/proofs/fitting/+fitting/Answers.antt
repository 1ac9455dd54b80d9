use Rattle.std.proofs.Common.{◌≡◌, ◌∙◌, ◌+◌, ◌-◌, ◌++◌, ◌∷◌, [], ℕ, List, take, ap, sym, subst, arith, take_all}
use Rattle.std.specs.List.{flat_map}
use Rattle.certificate_laws.specs.Depth.{after_raise}
use Rattle.certificate_lines.specs.Fitting.{IsSet}
use Rattle.certificate_lines.specs.Writing.{DontFit}
use Rattle.certificate_data.specs.TreeValue.{tree_of, leaf_of, list_of_takes}
use Rattle.certificate_text.specs.Trees.{leaf_items, items_of_tree, items_of_takes}
use Rattle.certificate_text.specs.Tests.{Fitting}
use Rattle.certificate_lines.specs.declared.item.Item.{Item}
use Rattle.certificate_lines.specs.declared.item.Item.TheVariants as item
use Rattle.certificate_lines.specs.declared.item.Wanted.TheVariants as want
use Rattle.certificate_data.specs.declared.tree.Tree.{out-Tree}
use Rattle.certificate_data.specs.declared.tree.Branch.{Branch, out-Branch}
use Rattle.certificate_data.specs.declared.tree.Take.{Take, out-Take}
use Rattle.certificate_text.proofs.LoopLaws.{after_raise-le}
use Rattle.certificate_text.proofs.TreeViews.{items_of_branch, items_of_take}
use Rattle.certificate_text.proofs.TreeFits.{take_fitting, take_unfit, take_refused, branch_fitting, branch_unfit, branch_refused, take_parts, branch_parts, takes_flat, tree_parts}
use Rattle.certificate_text.proofs.FitLaws.{fitting_as, fitting_then, fitting_line, refused_as, tests_as, tests_after, tested, untested, list_goes, list_stops}
use Rattle.certificate_text.proofs.fitting.+fitting.Goals as goal

pub takes_fit-returns-then-not-take_fits : goal.takes_fit-returns-then-not-take_fits
takes_fit-returns-then-not-take_fits t c =
    let x = c.take-item.result in
    let w = want.Takes c.args.format c.args.levels ∷ [] in
    refused_as w _ _ (ap (λ (l : List Item). l ++ item.Mark ∷ []) (sym (takes_flat c.args.takes.now)))
    (list_stops items_of_take c.args.takes.now w w w c.taking.take-index x (item.Mark ∷ []) c.take-item.is c.taking-test.true c.taking.invariant
    (refused_as w _ _ (sym (take_parts x))
    (take_unfit c.args.format c.args.levels (out-Take x).codes (items_of_tree (tree_of (out-Take x).tree))
    (λ s.
    let yes = c.take_fits.ensures.1 (subst IsSet (sym c.as_slice.ensures) s) in
    cc (yes, c.if-not-take_fits.true)))))

pub takes_fit-returns-then-not-tree_fits : goal.takes_fit-returns-then-not-tree_fits
takes_fit-returns-then-not-tree_fits t c =
    let x = c.take-item.result in
    let w = want.Takes c.args.format c.args.levels ∷ [] in
    let set = subst IsSet c.as_slice.ensures (c.take_fits.ensures.0 c.if-not-take_fits.false) in
    refused_as w _ _ (ap (λ (l : List Item). l ++ item.Mark ∷ []) (sym (takes_flat c.args.takes.now)))
    (list_stops items_of_take c.args.takes.now w w w c.taking.take-index x (item.Mark ∷ []) c.take-item.is c.taking-test.true c.taking.invariant
    (refused_as w _ _ (sym (take_parts x)) (take_refused c.args.format c.args.levels (out-Take x).codes (items_of_tree (tree_of (out-Take x).tree)) set (untested (want.Tree c.args.format (c.args.levels - 1) ∷ []) [] (items_of_tree (tree_of (out-Take x).tree)) c.tree_fits.result c.if-not-tree_fits.true c.tree_fits.ensures))))

pub takes_fit-taking-preserved : goal.takes_fit-taking-preserved
takes_fit-taking-preserved t c =
    let x = c.take-item.result in
    let w = want.Takes c.args.format c.args.levels ∷ [] in
    let set = subst IsSet c.as_slice.ensures (c.take_fits.ensures.0 c.if-not-take_fits.false) in
    list_goes items_of_take c.args.takes.now w w w c.taking.take-index x c.take-item.is c.taking-test.true c.taking.invariant
    (fitting_as w w _ _ (sym (take_parts x)) (take_fitting c.args.format c.args.levels (out-Take x).codes (items_of_tree (tree_of (out-Take x).tree)) set (tested (want.Tree c.args.format (c.args.levels - 1) ∷ []) [] (items_of_tree (tree_of (out-Take x).tree)) c.tree_fits.result c.if-not-tree_fits.false c.tree_fits.ensures)))

pub takes_fit-returns : goal.takes_fit-returns
takes_fit-returns t c =
    let w = want.Takes c.args.format c.args.levels ∷ [] in
    let all : take c.taking.take-index c.args.takes.now ≡ c.args.takes.now = take_all c.taking.take-index c.args.takes.now (omega arith) in
    fitting_then w w (want.Tree c.args.format (after_raise c.args.format c.args.levels) ∷ []) (items_of_takes (list_of_takes c.args.takes.now)) (item.Mark ∷ [])
    (fitting_as w w _ _ (ap (λ (l : List Take). flat_map items_of_take l) all ∙ sym (takes_flat c.args.takes.now)) c.taking.invariant)
    (fitting_line (want.Takes c.args.format c.args.levels) item.Mark tt)

pub tree_fits-returns-then-not-branch_fits : goal.tree_fits-returns-then-not-branch_fits
tree_fits-returns-then-not-branch_fits t c =
    let b = c.branch-item.result in
    let w = want.Tree c.args.format c.args.levels ∷ [] in
    let v = want.Tree c.args.format c.branching.levels ∷ [] in
    let list = c.deref-branch-items.result.now in
    let whole : flat_map items_of_branch list ++ leaf_items (leaf_of (out-Tree c.args.tree.now).leaf) ≡ items_of_tree (tree_of c.args.tree.now) =
    ap (λ (l : List Branch). flat_map items_of_branch l ++ leaf_items (leaf_of (out-Tree c.args.tree.now).leaf)) c.deref-branch-items.ensures.value ∙ sym (tree_parts c.args.tree.now) in
    refused_as w _ _ whole
    (list_stops items_of_branch list w v v c.branching.branch-index b (leaf_items (leaf_of (out-Tree c.args.tree.now).leaf)) c.branch-item.is c.branching-test.true c.branching.invariant.fitting
    (refused_as v _ _ (sym (branch_parts b))
    (branch_unfit c.args.format c.branching.levels (out-Branch b).county (out-Branch b).limit (items_of_takes (list_of_takes (out-Branch b).takes.items) ++ item.Mark ∷ [])
    (λ s.
    let yes = c.branch_fits.ensures.1 s in
    cc (yes, c.if-not-branch_fits.true)))))

pub tree_fits-returns-then-not-takes_fit : goal.tree_fits-returns-then-not-takes_fit
tree_fits-returns-then-not-takes_fit t c =
    let b = c.branch-item.result in
    let w = want.Tree c.args.format c.args.levels ∷ [] in
    let v = want.Tree c.args.format c.branching.levels ∷ [] in
    let list = c.deref-branch-items.result.now in
    let whole : flat_map items_of_branch list ++ leaf_items (leaf_of (out-Tree c.args.tree.now).leaf) ≡ items_of_tree (tree_of c.args.tree.now) =
    ap (λ (l : List Branch). flat_map items_of_branch l ++ leaf_items (leaf_of (out-Tree c.args.tree.now).leaf)) c.deref-branch-items.ensures.value ∙ sym (tree_parts c.args.tree.now) in
    refused_as w _ _ whole
    (list_stops items_of_branch list w v v c.branching.branch-index b (leaf_items (leaf_of (out-Tree c.args.tree.now).leaf)) c.branch-item.is c.branching-test.true c.branching.invariant.fitting
    (refused_as v _ _ (sym (branch_parts b))
    (branch_refused c.args.format c.branching.levels (out-Branch b).county (out-Branch b).limit (items_of_takes (list_of_takes (out-Branch b).takes.items) ++ item.Mark ∷ []) (c.branch_fits.ensures.0 c.if-not-branch_fits.false)
    (subst (λ (ts : List Take). DontFit (want.Takes c.args.format c.branching.levels ∷ []) (items_of_takes (list_of_takes ts) ++ item.Mark ∷ [])) c.deref.ensures.value (untested (want.Takes c.args.format c.branching.levels ∷ []) (want.Tree c.args.format (after_raise c.args.format c.branching.levels) ∷ []) (items_of_takes (list_of_takes c.deref.result.now) ++ item.Mark ∷ []) c.takes_fit.result c.if-not-takes_fit.true c.takes_fit.ensures)))))

pub tree_fits-branching-preserved : goal.tree_fits-branching-preserved
tree_fits-branching-preserved t c =
    let b = c.branch-item.result in
    let w = want.Tree c.args.format c.args.levels ∷ [] in
    let v = want.Tree c.args.format c.branching.levels ∷ [] in
    let next = want.Tree c.args.format (after_raise c.args.format c.branching.levels) ∷ [] in
    let list = c.deref-branch-items.result.now in
    let inside = subst (λ (ts : List Take). Fitting (want.Takes c.args.format c.branching.levels ∷ []) (items_of_takes (list_of_takes ts) ++ item.Mark ∷ []) next) c.deref.ensures.value (tested (want.Takes c.args.format c.branching.levels ∷ []) (want.Tree c.args.format (after_raise c.args.format c.branching.levels) ∷ []) (items_of_takes (list_of_takes c.deref.result.now) ++ item.Mark ∷ []) c.takes_fit.result c.if-not-takes_fit.false c.takes_fit.ensures) in
    record {
      fitting =
          subst (λ (k : ℕ). Fitting w (flat_map items_of_branch (take (c.branching.branch-index + 1) list)) (want.Tree c.args.format k ∷ [])) (sym c.levels_after-levels.ensures)
          (list_goes items_of_branch list w v next c.branching.branch-index b c.branch-item.is c.branching-test.true c.branching.invariant.fitting
          (fitting_as v next _ _ (sym (branch_parts b)) (branch_fitting c.args.format c.branching.levels (out-Branch b).county (out-Branch b).limit (items_of_takes (list_of_takes (out-Branch b).takes.items) ++ item.Mark ∷ []) (c.branch_fits.ensures.0 c.if-not-branch_fits.false) inside)));
      levels = omega (arith, c.levels_after-levels.ensures, after_raise-le c.args.format c.branching.levels, c.branching.invariant.levels);
    }

pub tree_fits-returns : goal.tree_fits-returns
tree_fits-returns t c =
    let w = want.Tree c.args.format c.args.levels ∷ [] in
    let v = want.Tree c.args.format c.branching.levels ∷ [] in
    let list = c.deref-branch-items.result.now in
    let leaf = leaf_items (leaf_of (out-Tree c.args.tree.now).leaf) in
    let all : take c.branching.branch-index list ≡ list = take_all c.branching.branch-index list (omega arith) in
    let whole : flat_map items_of_branch (take c.branching.branch-index list) ++ leaf ≡ items_of_tree (tree_of c.args.tree.now) =
    ap (λ (l : List Branch). flat_map items_of_branch l ++ leaf) (all ∙ c.deref-branch-items.ensures.value) ∙ sym (tree_parts c.args.tree.now) in
    tests_as w [] (flat_map items_of_branch (take c.branching.branch-index list) ++ leaf) (items_of_tree (tree_of c.args.tree.now)) c.leaf_fits.result whole
    (tests_after w v [] (flat_map items_of_branch (take c.branching.branch-index list)) leaf c.leaf_fits.result c.branching.invariant.fitting (c.leaf_fits.ensures c.args.format c.branching.levels))
