use Rattle.std.proofs.Common.{◌≡◌, ◌∙◌, ◌+◌, ◌-◌, ◌++◌, ◌∷◌, [], ℕ, List, take, ap, sym, subst, arith, take_all}
use Rattle.std.specs.List.{flat_map}
use Rattle.certificate_laws.specs.Depth.{after_raise}
use Rattle.certificate_lines.specs.Fitting.{IsSet}
use Rattle.certificate_lines.specs.Writing.{DontFit}
use Rattle.certificate_lines.specs.declared.item.Item.{Item}
use Rattle.certificate_lines.specs.declared.item.Item.TheVariants as item
use Rattle.certificate_lines.specs.declared.item.Wanted.TheVariants as want
use Rattle.certificate_text.specs.Tests.{Fitting}
use Rattle.certificate_text.proofs.LoopLaws.{after_raise-le}
use Rattle.certificate_text.proofs.FitLaws.{fitting_as, fitting_then, fitting_line, refused_as, tests_as, tests_after, tested, untested, list_goes, list_stops}
use Rattle.partial_trees.specs.declared.tree.PartialTree.{out-PartialTree}
use Rattle.partial_trees.specs.declared.tree.PartialBranch.{PartialBranch, out-PartialBranch}
use Rattle.partial_trees.specs.declared.tree.PartialTake.{PartialTake, out-PartialTake}
use Rattle.partial_trees.specs.PartialValue.{rest_of, partial_of, list_of_begun}
use Rattle.partial_text.specs.PartItems.{items_of_part, items_of_begun}
use Rattle.partial_text.specs.Reading.{part_branch_items, part_take_items, tree_in, takes_in}
use Rattle.partial_text.proofs.PartLists.{takes_items, part_listed}
use Rattle.partial_text.proofs.PartFits.{take_fitting, take_unfit, take_refused, branch_fitting, branch_unfit, branch_refused}
use Rattle.partial_text.proofs.fitting.+fitting.Goals as goal

pub takes_fit-returns-then-not-take_fits : goal.takes_fit-returns-then-not-take_fits
takes_fit-returns-then-not-take_fits t c =
    let x = c.take-item.result in
    let w = want.PartTakes c.args.format c.args.levels ∷ [] in
    refused_as w _ _ (ap (λ (l : List Item). l ++ item.Mark ∷ []) (sym (takes_items c.args.takes.now)))
    (list_stops part_take_items c.args.takes.now w w w c.taking.take-index x (item.Mark ∷ []) c.take-item.is c.taking-test.true c.taking.invariant
    (take_unfit c.args.format c.args.levels (out-PartialTake x).codes (items_of_part (tree_in x))
    (λ s.
    let yes = c.take_fits.ensures.1 (subst IsSet (sym c.as_slice.ensures) s) in
    cc (yes, c.if-not-take_fits.true))))

pub takes_fit-returns-then-not-part_fits : goal.takes_fit-returns-then-not-part_fits
takes_fit-returns-then-not-part_fits t c =
    let x = c.take-item.result in
    let w = want.PartTakes c.args.format c.args.levels ∷ [] in
    let set = subst IsSet c.as_slice.ensures (c.take_fits.ensures.0 c.if-not-take_fits.false) in
    refused_as w _ _ (ap (λ (l : List Item). l ++ item.Mark ∷ []) (sym (takes_items c.args.takes.now)))
    (list_stops part_take_items c.args.takes.now w w w c.taking.take-index x (item.Mark ∷ []) c.take-item.is c.taking-test.true c.taking.invariant
    (take_refused c.args.format c.args.levels (out-PartialTake x).codes (items_of_part (tree_in x)) set (untested (want.Part c.args.format (c.args.levels - 1) ∷ []) [] (items_of_part (tree_in x)) c.part_fits.result c.if-not-part_fits.true c.part_fits.ensures)))

pub takes_fit-taking-preserved : goal.takes_fit-taking-preserved
takes_fit-taking-preserved t c =
    let x = c.take-item.result in
    let w = want.PartTakes c.args.format c.args.levels ∷ [] in
    let set = subst IsSet c.as_slice.ensures (c.take_fits.ensures.0 c.if-not-take_fits.false) in
    list_goes part_take_items c.args.takes.now w w w c.taking.take-index x c.take-item.is c.taking-test.true c.taking.invariant
    (take_fitting c.args.format c.args.levels (out-PartialTake x).codes (items_of_part (tree_in x)) set (tested (want.Part c.args.format (c.args.levels - 1) ∷ []) [] (items_of_part (tree_in x)) c.part_fits.result c.if-not-part_fits.false c.part_fits.ensures))

pub takes_fit-returns : goal.takes_fit-returns
takes_fit-returns t c =
    let w = want.PartTakes c.args.format c.args.levels ∷ [] in
    let all : take c.taking.take-index c.args.takes.now ≡ c.args.takes.now = take_all c.taking.take-index c.args.takes.now (omega arith) in
    fitting_then w w (want.Part c.args.format (after_raise c.args.format c.args.levels) ∷ []) (items_of_begun (list_of_begun c.args.takes.now)) (item.Mark ∷ [])
    (fitting_as w w _ _ (ap (λ (l : List PartialTake). flat_map part_take_items l) all ∙ sym (takes_items c.args.takes.now)) c.taking.invariant)
    (fitting_line (want.PartTakes c.args.format c.args.levels) item.Mark tt)

pub part_fits-returns-then-not-branch_fits : goal.part_fits-returns-then-not-branch_fits
part_fits-returns-then-not-branch_fits t c =
    let part = c.args.part.now in
    let list = c.deref-branch-items.result.now in
    let b = out-PartialBranch c.branch-item.result in
    let v = want.Part c.args.format c.branching.levels ∷ [] in
    refused_as (want.Part c.args.format c.args.levels ∷ []) _ _ (part_listed part list c.deref-branch-items.ensures.value)
    (list_stops part_branch_items list (want.Part c.args.format c.args.levels ∷ []) v v c.branching.branch-index c.branch-item.result (items_of_part (rest_of (out-PartialTree part).rest)) c.branch-item.is c.branching-test.true c.branching.invariant.fitting
    (branch_unfit c.args.format c.branching.levels b.county b.limit (items_of_begun (takes_in c.branch-item.result) ++ item.Mark ∷ [])
    (λ s.
    let yes = c.branch_fits.ensures.1 s in
    cc (yes, c.if-not-branch_fits.true))))

pub part_fits-returns-then-not-takes_fit : goal.part_fits-returns-then-not-takes_fit
part_fits-returns-then-not-takes_fit t c =
    let part = c.args.part.now in
    let list = c.deref-branch-items.result.now in
    let b = out-PartialBranch c.branch-item.result in
    let v = want.Part c.args.format c.branching.levels ∷ [] in
    let refused = untested (want.PartTakes c.args.format c.branching.levels ∷ []) (want.Part c.args.format (after_raise c.args.format c.branching.levels) ∷ []) (items_of_begun (list_of_begun c.deref.result.now) ++ item.Mark ∷ []) c.takes_fit.result c.if-not-takes_fit.true c.takes_fit.ensures in
    refused_as (want.Part c.args.format c.args.levels ∷ []) _ _ (part_listed part list c.deref-branch-items.ensures.value)
    (list_stops part_branch_items list (want.Part c.args.format c.args.levels ∷ []) v v c.branching.branch-index c.branch-item.result (items_of_part (rest_of (out-PartialTree part).rest)) c.branch-item.is c.branching-test.true c.branching.invariant.fitting
    (branch_refused c.args.format c.branching.levels b.county b.limit (items_of_begun (takes_in c.branch-item.result) ++ item.Mark ∷ []) (c.branch_fits.ensures.0 c.if-not-branch_fits.false)
    (subst (λ (ts : List PartialTake). DontFit (want.PartTakes c.args.format c.branching.levels ∷ []) (items_of_begun (list_of_begun ts) ++ item.Mark ∷ [])) c.deref.ensures.value refused)))

pub part_fits-branching-preserved : goal.part_fits-branching-preserved
part_fits-branching-preserved t c =
    let b = c.branch-item.result in
    let w = want.Part c.args.format c.args.levels ∷ [] in
    let v = want.Part c.args.format c.branching.levels ∷ [] in
    let next = want.Part c.args.format (after_raise c.args.format c.branching.levels) ∷ [] in
    let list = c.deref-branch-items.result.now in
    let inside = subst (λ (ts : List PartialTake). Fitting (want.PartTakes c.args.format c.branching.levels ∷ []) (items_of_begun (list_of_begun ts) ++ item.Mark ∷ []) next) c.deref.ensures.value (tested (want.PartTakes c.args.format c.branching.levels ∷ []) (want.Part c.args.format (after_raise c.args.format c.branching.levels) ∷ []) (items_of_begun (list_of_begun c.deref.result.now) ++ item.Mark ∷ []) c.takes_fit.result c.if-not-takes_fit.false c.takes_fit.ensures) in
    record {
      fitting =
          subst (λ (k : ℕ). Fitting w (flat_map part_branch_items (take (c.branching.branch-index + 1) list)) (want.Part c.args.format k ∷ [])) (sym c.levels_after-levels.ensures)
          (list_goes part_branch_items list w v next c.branching.branch-index b c.branch-item.is c.branching-test.true c.branching.invariant.fitting
          (branch_fitting c.args.format c.branching.levels (out-PartialBranch b).county (out-PartialBranch b).limit (items_of_begun (takes_in b) ++ item.Mark ∷ []) (c.branch_fits.ensures.0 c.if-not-branch_fits.false) inside));
      levels = omega (arith, c.levels_after-levels.ensures, after_raise-le c.args.format c.branching.levels, c.branching.invariant.levels);
    }

pub part_fits-returns : goal.part_fits-returns
part_fits-returns t c =
    let w = want.Part c.args.format c.args.levels ∷ [] in
    let part = c.args.part.now in
    let list = take c.branching.branch-index c.deref-branch-items.result.now in
    let rest = items_of_part (rest_of (out-PartialTree part).rest) in
    let whole = part_listed part list (take_all c.branching.branch-index c.deref-branch-items.result.now (omega arith) ∙ c.deref-branch-items.ensures.value) in
    tests_as w [] (flat_map part_branch_items list ++ rest) (items_of_part (partial_of part)) c.rest_fits.result whole
    (tests_after w (want.Part c.args.format c.branching.levels ∷ []) [] (flat_map part_branch_items list) rest c.rest_fits.result c.branching.invariant.fitting c.rest_fits.ensures)
