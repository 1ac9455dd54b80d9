use Rattle.std.proofs.Common.{◌≡◌, ◌+◌, List, drop, refl, sym, ap, ◌∙◌, subst, arith}
use Rattle.std.proofs.lemmas.List.{drop_all}
use Rattle.county_problem.specs.ProblemValue.{problem_of}
use Rattle.certificate_data.specs.TreeValue.{tree_of, leaf_of, list_of_takes}
use Rattle.certificate_data.specs.declared.tree.Tree.{out-Tree}
use Rattle.certificate_data.specs.declared.tree.Take.{out-Take}
use Rattle.certificate_data.specs.declared.tree.Branch.{Branch, out-Branch}
use Rattle.certificate_data.proofs.TreeLists.{list_onto}
use Rattle.certificate_laws.specs.Proving.{limit_of}
use Rattle.certificate_laws.specs.State.{close, raise}
use Rattle.certificate_data.specs.RoundValue.{round_of}
use Rattle.certificate_data.specs.Tree.{leaf, take, branch, no_take}
use Rattle.checker_laws.specs.Lines.{tree_lines, takes_lines}
use Rattle.list_groupings.specs.Positions.{IsPosition}
use Rattle.list_groupings.specs.Walking.{IsProofAt}
use Rattle.list_groupings.proofs.Journeys.{GoesOnTakes, GoesOnTree}
use Rattle.list_groupings.proofs.WalkLemmas.{going_start, going_walked}
use Rattle.list_groupings.proofs.TreeParts.{tree_view, left_takes, left_tree, take_at, takes_behind, take_stops, take_goes, branch_next, takes_at, raised_at, branch_stops, branch_goes, takes_end}
use Rattle.list_groupings.proofs.walk.+walk.Goals as goal

pub put_takes-put_tree-requires : goal.put_takes-put_tree-requires
put_takes-put_tree-requires t c =
    let p = problem_of c.args.input.now.problem.now in
    let r = round_of c.args.input.now.round.now in
    let s = c.requires.at.0 in
    let inv = c.taking.invariant s c.requires.at.1 in
    let next = take_at p r s c.args.takes.now c.taking.take-index c.take-item.result c.take-item.is c.taking-test.true inv.0 in
    let lines = ap takes_lines (left_takes c.args.takes.now c.taking.take-index c.take-item.result c.take-item.is c.taking-test.true) in
    (omega (arith, inv.1.fewer, lines, c.decreases), (c.requires.input, ((close (out-Take c.take-item.result).codes s, (c.in-Ok.ensures p s c.requires.at.1.0, next)), omega (arith, inv.1.lines, c.requires.lines, lines))))

pub put_takes-returns-in-Err : goal.put_takes-returns-in-Err
put_takes-returns-in-Err t c = record {
  walked = λ s h.
      let inv = c.taking.invariant s h in
      take_stops (problem_of c.args.input.now.problem.now) (round_of c.args.input.now.round.now) s c.args.takes.now c.taking.take-index c.take-item.result c.take-item.is c.taking-test.true c.args.found.now c.taking.found (record { line = c.taking.found.line + 1; list = c.taking.found.list }) c.put_tree.new.found c.put_tree.new.found c.in-Err.stop refl inv.1
      (c.in-Err.ensures.walked (close (out-Take c.take-item.result).codes s) (c.in-Ok.ensures (problem_of c.args.input.now.problem.now) s h.0, take_at (problem_of c.args.input.now.problem.now) (round_of c.args.input.now.round.now) s c.args.takes.now c.taking.take-index c.take-item.result c.take-item.is c.taking-test.true inv.0));
}

pub put_takes-taking-preserved : goal.put_takes-taking-preserved
put_takes-taking-preserved t c = λ s h.
    let p = problem_of c.args.input.now.problem.now in
    let r = round_of c.args.input.now.round.now in
    let inv = c.taking.invariant s h in
    let done = c.in-Ok-put_tree.ensures.walked (close (out-Take c.take-item.result).codes s) (c.in-Ok.ensures p s h.0, take_at p r s c.args.takes.now c.taking.take-index c.take-item.result c.take-item.is c.taking-test.true inv.0) in
    (takes_behind p r s c.args.takes.now c.taking.take-index c.take-item.result c.take-item.is c.taking-test.true inv.0, take_goes p r s c.args.takes.now c.taking.take-index c.take-item.result c.take-item.is c.taking-test.true c.args.found.now c.taking.found c.put_tree.new.found inv.1 done.0 done.1 done.2)

pub put_takes-returns : goal.put_takes-returns
put_takes-returns t c = record {
  walked = λ s h.
      let p = problem_of c.args.input.now.problem.now in
      let r = round_of c.args.input.now.round.now in
      let whole = list_of_takes c.args.takes.now in
      let e : list_of_takes (drop c.taking.take-index c.args.takes.now) ≡ no_take = ap list_of_takes (drop_all c.taking.take-index c.args.takes.now (omega arith)) in
      let inv = c.taking.invariant s h in
      takes_end p r s whole c.args.found.now c.taking.found (record { line = c.taking.found.line + 1; list = c.taking.found.list }) refl refl (subst (λ z. GoesOnTakes p r s whole z c.args.found.now c.taking.found) e inv.1);
}

pub put_tree-branching-init : goal.put_tree-branching-init
put_tree-branching-init t c = λ s h.
    let p = problem_of c.args.input.now.problem.now in
    let r = round_of c.args.input.now.round.now in
    let tree = c.args.tree.now in
    let last = leaf (leaf_of (out-Tree tree).leaf) in
    let e : tree_of tree ≡ list_onto c.deref-branch-items.result.now last = tree_view tree ∙ ap (λ (l : List Branch). list_onto l last) (sym c.deref-branch-items.ensures.value) in
    (s, (h.0, subst (IsProofAt p r s) e h.1), subst (λ z. GoesOnTree p r s s (tree_of tree) z c.args.found.now c.args.found.now) e (going_start p _ _ _ _ c.args.found.now))

pub put_tree-overflow_add-found : goal.put_tree-overflow_add-found
put_tree-overflow_add-found t c =
    let x = c.branch-item.result in
    let last = leaf (leaf_of (out-Tree c.args.tree.now).leaf) in
    let e : list_onto (drop c.branching.branch-index c.deref-branch-items.result.now) last ≡ branch (out-Branch x).county (out-Branch x).limit (list_of_takes (out-Branch x).takes.items) (list_onto (drop (c.branching.branch-index + 1) c.deref-branch-items.result.now) last) =
    left_tree c.deref-branch-items.result.now c.branching.branch-index x last c.branch-item.is c.branching-test.true in
    let inv = c.branching.invariant c.requires.at.0 c.requires.at.1 in
    omega (arith, inv.2.lines, c.requires.lines, ap tree_lines e)

pub put_tree-put_takes-requires : goal.put_tree-put_takes-requires
put_tree-put_takes-requires t c =
    let p = problem_of c.args.input.now.problem.now in
    let r = round_of c.args.input.now.round.now in
    let inv = c.branching.invariant c.requires.at.0 c.requires.at.1 in
    let lines = ap tree_lines (branch_next p r c.requires.at.0 inv.0 (tree_of c.args.tree.now) c.deref-branch-items.result.now c.branching.branch-index c.branch-item.result (leaf (leaf_of (out-Tree c.args.tree.now).leaf)) c.branch-item.is c.branching-test.true c.deref.result.now c.deref.ensures.value) in
    (omega (arith, inv.2.fewer, lines, c.decreases), (c.requires.input, ((inv.0, (inv.1.0, takes_at p r c.requires.at.0 inv.0 (tree_of c.args.tree.now) c.deref-branch-items.result.now c.branching.branch-index c.branch-item.result (leaf (leaf_of (out-Tree c.args.tree.now).leaf)) c.branch-item.is c.branching-test.true c.deref.result.now c.deref.ensures.value inv.1.1)), omega (arith, inv.2.lines, c.requires.lines, lines))))

pub put_tree-returns-in-Err : goal.put_tree-returns-in-Err
put_tree-returns-in-Err t c = record {
  walked = λ s h.
      let inv = c.branching.invariant s h in
      branch_stops (problem_of c.args.input.now.problem.now) (round_of c.args.input.now.round.now) s inv.0 (tree_of c.args.tree.now) c.deref-branch-items.result.now c.branching.branch-index c.branch-item.result (leaf (leaf_of (out-Tree c.args.tree.now).leaf)) c.branch-item.is c.branching-test.true c.deref.result.now c.deref.ensures.value c.args.found.now c.branching.found (record { line = c.branching.found.line + 1; list = c.branching.found.list }) c.put_takes.new.found c.put_takes.new.found c.in-Err.stop refl inv.2
      (c.in-Err.ensures.walked inv.0 (inv.1.0, takes_at (problem_of c.args.input.now.problem.now) (round_of c.args.input.now.round.now) s inv.0 (tree_of c.args.tree.now) c.deref-branch-items.result.now c.branching.branch-index c.branch-item.result (leaf (leaf_of (out-Tree c.args.tree.now).leaf)) c.branch-item.is c.branching-test.true c.deref.result.now c.deref.ensures.value inv.1.1));
}

pub put_tree-branching-preserved : goal.put_tree-branching-preserved
put_tree-branching-preserved t c = λ s h.
    let p = problem_of c.args.input.now.problem.now in
    let r = round_of c.args.input.now.round.now in
    let inv = c.branching.invariant s h in
    let county = (out-Branch c.branch-item.result).county in
    let limit = (out-Branch c.branch-item.result).limit in
    let done = c.in-Ok.ensures.walked inv.0 (inv.1.0, takes_at p r s inv.0 (tree_of c.args.tree.now) c.deref-branch-items.result.now c.branching.branch-index c.branch-item.result (leaf (leaf_of (out-Tree c.args.tree.now).leaf)) c.branch-item.is c.branching-test.true c.deref.result.now c.deref.ensures.value inv.1.1) in
    let now : IsPosition p (raise county (limit_of r limit) inv.0) c.in-Ok-raised.raised = subst (λ z. IsPosition p (raise county z inv.0) c.in-Ok-raised.raised) c.limit_for-limit.ensures (c.in-Ok-raised.ensures p inv.0 inv.1.0) in (
      raise county (limit_of r limit) inv.0,
      (now, raised_at p r s inv.0 (tree_of c.args.tree.now) c.deref-branch-items.result.now c.branching.branch-index c.branch-item.result (leaf (leaf_of (out-Tree c.args.tree.now).leaf)) c.branch-item.is c.branching-test.true c.deref.result.now c.deref.ensures.value inv.1.1),
      branch_goes p r s inv.0 (tree_of c.args.tree.now) c.deref-branch-items.result.now c.branching.branch-index c.branch-item.result (leaf (leaf_of (out-Tree c.args.tree.now).leaf)) c.branch-item.is c.branching-test.true c.deref.result.now c.deref.ensures.value c.args.found.now c.branching.found c.put_takes.new.found inv.2 done.0 done.1 done.2,
    )

pub put_tree-returns : goal.put_tree-returns
put_tree-returns t c = record {
  walked = λ s h.
      let p = problem_of c.args.input.now.problem.now in
      let r = round_of c.args.input.now.round.now in
      let last = leaf (leaf_of (out-Tree c.args.tree.now).leaf) in
      let whole = tree_of c.args.tree.now in
      let e : list_onto (drop c.branching.branch-index c.deref-branch-items.result.now) last ≡ last = ap (λ (l : List Branch). list_onto l last) (drop_all c.branching.branch-index c.deref-branch-items.result.now (omega arith)) in
      let inv = c.branching.invariant s h in
      going_walked p _ _ _ _ _ _ _ _ c.args.found.now c.branching.found c.put_leaf.new.found c.put_leaf.result (subst (λ z. GoesOnTree p r s inv.0 whole z c.args.found.now c.branching.found) e inv.2)
      (c.put_leaf.ensures.walked inv.0 (inv.1.0, subst (IsProofAt p r inv.0) e inv.1.1));
}

pub put_takes-overflow_add-found : goal.put_takes-overflow_add-found
put_takes-overflow_add-found t c =
    let x = c.take-item.result in
    let e : list_of_takes (drop c.taking.take-index c.args.takes.now) ≡ take (out-Take x).codes (tree_of (out-Take x).tree) (list_of_takes (drop (c.taking.take-index + 1) c.args.takes.now)) = left_takes c.args.takes.now c.taking.take-index x c.take-item.is c.taking-test.true in
    let inv = c.taking.invariant c.requires.at.0 c.requires.at.1 in
    omega (arith, inv.1.lines, c.requires.lines, ap takes_lines e)
