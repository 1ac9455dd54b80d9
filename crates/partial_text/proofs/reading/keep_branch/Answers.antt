use Rattle.std.proofs.Common.{◌≤◌, List, [], ◌∷◌, ◌++◌, All, ap, sym, subst, ◌∙◌}
use Rattle.std.proofs.lemmas.List.Elements.{All-append}
use Rattle.board_laws.specs.PartialTrees.{open_in}
use Rattle.partial_trees.specs.declared.tree.PartialBranch.{PartialBranch}
use Rattle.partial_trees.specs.declared.tree.PartialTake.{PartialTake}
use Rattle.partial_trees.specs.PartialValue.{list_of_begun}
use Rattle.partial_text.specs.Reading.{IsWholeTake, IsWholeBranch, StayOpen, StayOpenBefore}
use Rattle.partial_text.proofs.PartLists.{before_more, stay_more, one_of}
use Rattle.partial_text.proofs.reading.keep_branch.Goals as goal

pub returns-in_ok-push_all-clause-stay : goal.returns-in_ok-push_all-clause-stay
returns-in_ok-push_all-clause-stay c =
    let b = c.args.branch in
    let some = subst (λ (ts : List PartialTake). 1 ≤ open_in (list_of_begun ts)) c.deref.ensures.value (c.have_open_leaf-open.ensures.some c.if-open.true) in
    subst StayOpen (sym (c.in_ok-push_all.ensures.pushed ∙ ap (λ (l : List PartialBranch). c.args.branches.now.items ++ l) (ap (λ v. v.items) c.replace-kept.ensures.value ∙ c.in_ok-push_on.ensures.pushed)))
    (stay_more c.args.branches.now.items c.args.later.now.items b c.requires.stay c.requires.before c.requires.opened some)

pub returns-else-open-clause-before : goal.returns-else-open-clause-before
returns-else-open-clause-before c =
    subst StayOpenBefore (sym c.in_ok-push_on.ensures.pushed) (before_more c.args.later.now.items c.args.branch c.requires.before c.requires.opened)

pub returns-else-open-clause-whole : goal.returns-else-open-clause-whole
returns-else-open-clause-whole c =
    let here : IsWholeBranch c.args.branch = subst (All IsWholeTake) c.deref.ensures.value (c.have_open_leaf-open.ensures.none c.if-open.false) in
    subst (All IsWholeBranch) (sym c.in_ok-push_on.ensures.pushed) (All-append IsWholeBranch c.args.later.now.items (c.args.branch ∷ []) c.requires.whole (one_of IsWholeBranch c.args.branch here))
