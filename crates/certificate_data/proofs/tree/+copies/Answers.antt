use Rattle.std.proofs.Common.{◌≡◌, ◌∙◌, List, take, ap, arith, take_all}
use Rattle.certificate_data.specs.declared.tree.Branch.{Branch}
use Rattle.certificate_data.specs.declared.tree.Take.{Take}
use Rattle.certificate_data.proofs.TreeLists.{list_onto}
use Rattle.certificate_data.proofs.CopyLaws.{takes_onto, take_copied, branch_copied, branch_like, tree_like}
use Rattle.certificate_data.proofs.tree.+copies.Goals as goal

pub Branch::copy-loop-take-preserved : goal.Branch::copy-loop-take-preserved
Branch::copy-loop-take-preserved t c others =
    ap (λ (l : List Take). takes_onto l others) c.in_ok-push.ensures.items
    ∙ take_copied c.loop-take.takes.items c.deref-take-items.result.now c.loop-take.take-index c.take-item.result c.in_ok-copy.field-0 c.take-item.is c.loop-take-test.true c.loop-take.invariant c.in_ok-copy.ensures others

pub Branch::copy-returns : goal.Branch::copy-returns
Branch::copy-returns t c raised =
    let list = c.deref-take-items.result.now in
    let all : take c.loop-take.take-index list ≡ list = take_all c.loop-take.take-index list (omega arith) in
    branch_like c.args.self.now c.loop-take.takes (λ others. c.loop-take.invariant others ∙ ap (λ (l : List Take). takes_onto l others) (all ∙ c.deref-take-items.ensures.value)) raised

pub Tree::copy-loop-branch-preserved : goal.Tree::copy-loop-branch-preserved
Tree::copy-loop-branch-preserved t c raised =
    ap (λ (l : List Branch). list_onto l raised) c.in_ok-push.ensures.items
    ∙ branch_copied c.loop-branch.branches.items c.deref-branch-items.result.now c.loop-branch.branch-index c.branch-item.result c.in_ok-copy.field-0 c.branch-item.is c.loop-branch-test.true c.loop-branch.invariant c.in_ok-copy.ensures raised

pub Tree::copy-returns : goal.Tree::copy-returns
Tree::copy-returns t c =
    let list = c.deref-branch-items.result.now in
    let all : take c.loop-branch.branch-index list ≡ list = take_all c.loop-branch.branch-index list (omega arith) in
    tree_like c.args.self.now c.loop-branch.branches c.in_ok-leaf.leaf (λ raised. c.loop-branch.invariant raised ∙ ap (λ (l : List Branch). list_onto l raised) (all ∙ c.deref-branch-items.ensures.value)) c.in_ok-leaf.ensures
