use Rattle.std.proofs.Common.{refl, ap, arith}
use Rattle.std.proofs.lemmas.Bool.{false≢true}
use Rattle.std.proofs.lemmas.List.{drop_all}
use Rattle.board_laws.specs.PartialTrees.{open_leaves, open_in}
use Rattle.partial_trees.specs.PartialValue.{rest_of, partial_of, list_of_begun, list_onto}
use Rattle.partial_trees.specs.declared.tree.PartialTree.{out-PartialTree}
use Rattle.partial_trees.specs.declared.tree.PartialTake.{out-PartialTake}
use Rattle.partial_trees.proofs.PartialLists.{tree_made, leaves_left, takes_left}
use Rattle.partial_trees.proofs.OpenLeaves.{open_end, rest_open, rest_whole, none_there, some_there}
use Rattle.partial_trees.proofs.open_leaves.+leaving.Goals as goal

pub has_open_leaf-returns-then-is_none : goal.has_open_leaf-returns-then-is_none
has_open_leaf-returns-then-is_none t c =
    let tree = out-PartialTree c.args.tree.now in
    (λ h. omega (arith, ap open_leaves (tree_made c.args.tree.now), open_end tree.branches.items (rest_of tree.rest), rest_open tree.rest c.is_none.result c.is_none.ensures c.if-is_none.true), λ h. refl)

pub has_open_leaf-branching-init : goal.has_open_leaf-branching-init
has_open_leaf-branching-init t c rest = refl

pub has_open_leaf-returns-then-takes_are_open : goal.has_open_leaf-returns-then-takes_are_open
has_open_leaf-returns-then-takes_are_open t c =
    let tree = out-PartialTree c.args.tree.now in
    let rest = rest_of tree.rest in
    let list = c.deref-branch-items.result.now in
    let item = c.branch-item.result in
    let some = some_there (open_in (list_of_begun c.deref.result.now)) c.takes_are_open.result c.takes_are_open.ensures.0 c.if-takes_are_open.true in (
      λ h. omega (
        arith,
        some,
        ap (λ z. open_in (list_of_begun z)) c.deref.ensures.value,
        leaves_left list c.branching.branch-index item rest c.branch-item.is c.branching-test.true,
        c.branching.invariant rest,
        ap (λ z. open_leaves (list_onto z rest)) c.deref-branch-items.ensures.value,
        ap open_leaves (tree_made c.args.tree.now),
      ),
      λ h. refl,
    )

pub has_open_leaf-branching-preserved : goal.has_open_leaf-branching-preserved
has_open_leaf-branching-preserved t c rest =
    omega (
      arith,
      none_there (open_in (list_of_begun c.deref.result.now)) c.takes_are_open.result c.takes_are_open.ensures.1 c.if-takes_are_open.false,
      ap (λ z. open_in (list_of_begun z)) c.deref.ensures.value,
      leaves_left c.deref-branch-items.result.now c.branching.branch-index c.branch-item.result rest c.branch-item.is c.branching-test.true,
      c.branching.invariant rest,
    )

pub has_open_leaf-returns : goal.has_open_leaf-returns
has_open_leaf-returns t c =
    let tree = out-PartialTree c.args.tree.now in
    let rest = rest_of tree.rest in
    let list = c.deref-branch-items.result.now in (
      λ h. absurd (false≢true h),
      λ h. absurd (omega (
        arith,
        h,
        rest_whole tree.rest c.is_none.result c.is_none.ensures c.if-is_none.false,
        ap (λ z. open_leaves (list_onto z rest)) (drop_all c.branching.branch-index list (omega arith)),
        c.branching.invariant rest,
        ap (λ z. open_leaves (list_onto z rest)) c.deref-branch-items.ensures.value,
        ap open_leaves (tree_made c.args.tree.now),
      )),
    )

pub takes_are_open-taking-init : goal.takes_are_open-taking-init
takes_are_open-taking-init t c = refl

pub takes_are_open-returns-then-has_open_leaf : goal.takes_are_open-returns-then-has_open_leaf
takes_are_open-returns-then-has_open_leaf t c =
    let list = c.args.takes.now in
    let item = c.take-item.result in
    let some = some_there (open_leaves (partial_of (out-PartialTake item).tree)) c.has_open_leaf.result c.has_open_leaf.ensures.0 c.if-has_open_leaf.true in
    (λ h. omega (arith, some, takes_left list c.taking.take-index item c.take-item.is c.taking-test.true, c.taking.invariant), λ h. refl)

pub takes_are_open-taking-preserved : goal.takes_are_open-taking-preserved
takes_are_open-taking-preserved t c =
    let item = c.take-item.result in
    omega (
      arith,
      none_there (open_leaves (partial_of (out-PartialTake item).tree)) c.has_open_leaf.result c.has_open_leaf.ensures.1 c.if-has_open_leaf.false,
      takes_left c.args.takes.now c.taking.take-index item c.take-item.is c.taking-test.true,
      c.taking.invariant,
    )

pub takes_are_open-returns : goal.takes_are_open-returns
takes_are_open-returns t c =
    (λ h. absurd (false≢true h), λ h. absurd (omega (arith, h, ap (λ z. open_in (list_of_begun z)) (drop_all c.taking.take-index c.args.takes.now (omega arith)), c.taking.invariant)))
