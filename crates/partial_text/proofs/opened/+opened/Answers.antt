use Rattle.std.proofs.Common.{◌≡◌, ◌≤◌, ◌+◌, List, [], ◌∷◌, ◌++◌, take, All, ap, sym, subst, ◌∙◌, arith, take_all}
use Rattle.std.proofs.lemmas.Bool.{false≢true}
use Rattle.certificate_data.proofs.ListLaws.{taken_more}
use Rattle.board_laws.specs.PartialTrees.{PartialTree, open_leaves, open_in}
use Rattle.partial_trees.specs.declared.tree.PartialTree.{out-PartialTree}
use Rattle.partial_trees.specs.declared.tree.PartialBranch.{PartialBranch}
use Rattle.partial_trees.specs.declared.tree.PartialTake.{PartialTake}
use Rattle.partial_trees.specs.PartialValue.{rest_of, list_of_begun, list_onto}
use Rattle.partial_trees.specs.OpenBranches.{BranchesAreOpen, BranchesOfTakesAreOpen}
use Rattle.partial_trees.proofs.PartialLists.{tree_made, branch_falls, take_falls, deep_in}
use Rattle.partial_text.specs.Reading.{IsWholeTake, StayOpen, StayOpenBefore}
use Rattle.partial_text.proofs.PartLists.{stay_more, stay_none, before_more, begun_more, open_at}
use Rattle.partial_text.proofs.OpenTests.{takes_open, open_later, stays_open, ends_open}
use Rattle.partial_text.proofs.opened.+opened.Goals as goal

pub branches_are_open-takes_are_open-requires : goal.branches_are_open-takes_are_open-requires
branches_are_open-takes_are_open-requires t c = (
  omega (
    arith,
    c.decreases,
    branch_falls c.args.part.now c.deref-branch-items.result.now c.branching.branch-index c.branch-item.result c.deref-branch-items.ensures.value c.branch-item.is c.branching-test.true,
    ap (λ (z : List PartialTake). deep_in (list_of_begun z)) c.deref.ensures.value,
  ),
  tt,
)

pub branches_are_open-returns-then-not-takes_are_open : goal.branches_are_open-returns-then-not-takes_are_open
branches_are_open-returns-then-not-takes_are_open t c =
    let p = c.args.part.now in
    let bs = c.deref-branch-items.result.now in
    let b = c.branch-item.result in
    let rest = rest_of (out-PartialTree p).rest in (
      (λ e. absurd (false≢true e)),
      (λ h.
          let inside = takes_open bs c.branching.branch-index b rest c.branch-item.is c.branching-test.true (subst (λ (l : List PartialBranch). BranchesAreOpen (list_onto l rest)) (sym c.deref-branch-items.ensures.value) (subst BranchesAreOpen (tree_made p) h)) in
          let yes = c.takes_are_open.ensures.1 (subst (λ (l : List PartialTake). BranchesOfTakesAreOpen (list_of_begun l)) (sym c.deref.ensures.value) inside) in
          absurd (false≢true (sym c.if-not-takes_are_open.true ∙ yes))),
    )

pub branches_are_open-branching-preserved : goal.branches_are_open-branching-preserved
branches_are_open-branching-preserved t c =
    let bs = c.deref-branch-items.result.now in
    let i = c.branching.branch-index in
    let b = c.branch-item.result in
    let done = take i bs in
    let more : take (i + 1) bs ≡ done ++ b ∷ [] = taken_more bs i b c.branch-item.is c.branching-test.true in
    let takes = subst (λ (l : List PartialTake). BranchesOfTakesAreOpen (list_of_begun l)) c.deref.ensures.value (c.takes_are_open.ensures.0 c.if-not-takes_are_open.false) in
    record {
      before = subst StayOpenBefore (sym more) (before_more done b c.branching.invariant.before takes);
      some = λ e.
          let here = subst (λ (l : List PartialTake). 1 ≤ open_in (list_of_begun l)) c.deref-in-branching.ensures.value (c.have_open_leaf-in_takes.ensures.some e) in
          subst StayOpen (sym more) (stay_more [] done b stay_none c.branching.invariant.before takes here);
      none = λ e later h.
          let here = subst (All IsWholeTake) c.deref-in-branching.ensures.value (c.have_open_leaf-in_takes.ensures.none e) in
          open_later done b here later (subst (λ (l : List PartialBranch). BranchesAreOpen (list_onto l later)) more h);
    }

pub branches_are_open-returns-then-in_takes : goal.branches_are_open-returns-then-in_takes
branches_are_open-returns-then-in_takes t c =
    let bs = c.deref-branch-items.result.now in
    let all : take c.branching.branch-index bs ≡ bs = take_all c.branching.branch-index bs (omega arith) in
    stays_open c.args.part.now bs c.deref-branch-items.ensures.value (subst StayOpen all (c.branching.invariant.some c.if-in_takes.true))

pub branches_are_open-returns : goal.branches_are_open-returns
branches_are_open-returns t c =
    let bs = c.deref-branch-items.result.now in
    let all : take c.branching.branch-index bs ≡ bs = take_all c.branching.branch-index bs (omega arith) in
    ends_open c.args.part.now bs c.is_none.result c.deref-branch-items.ensures.value c.is_none.ensures (subst StayOpenBefore all c.branching.invariant.before)
    (subst (λ (l : List PartialBranch). (u : PartialTree) → BranchesAreOpen (list_onto l u) → 1 ≤ open_leaves u) all (c.branching.invariant.none c.if-in_takes.false))

pub takes_are_open-branches_are_open-requires : goal.takes_are_open-branches_are_open-requires
takes_are_open-branches_are_open-requires t c = (
  omega (arith, c.decreases, take_falls c.args.takes.now c.taking.take-index c.take-item.result c.take-item.is c.taking-test.true),
  tt,
)

pub takes_are_open-returns-then-not-branches_are_open : goal.takes_are_open-returns-then-not-branches_are_open
takes_are_open-returns-then-not-branches_are_open t c = (
  (λ e. absurd (false≢true e)),
  (λ h.
      let at = open_at c.args.takes.now c.taking.take-index c.take-item.result c.take-item.is c.taking-test.true h in
      absurd (false≢true (sym c.if-not-branches_are_open.true ∙ c.branches_are_open.ensures.1 at.opened))),
)

pub takes_are_open-taking-preserved : goal.takes_are_open-taking-preserved
takes_are_open-taking-preserved t c =
    let x = c.take-item.result in
    let list = c.args.takes.now in
    let i = c.taking.take-index in
    subst (λ (l : List PartialTake). BranchesOfTakesAreOpen (list_of_begun l)) (sym (taken_more list i x c.take-item.is c.taking-test.true))
    (begun_more (take i list) x c.taking.invariant (c.branches_are_open.ensures.0 c.if-not-branches_are_open.false))
