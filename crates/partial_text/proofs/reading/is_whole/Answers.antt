use Rattle.std.proofs.Common.{◌==◌, List, length, ap, sym, ◌∙◌}
use Rattle.partial_trees.specs.declared.tree.PartialTree.{out-PartialTree}
use Rattle.partial_trees.specs.declared.tree.PartialBranch.{PartialBranch}
use Rattle.partial_trees.specs.declared.tree.PartialTake.{out-PartialTake}
use Rattle.partial_text.proofs.PartLists.{begun_open, rest_open, made_whole, none_left, some_left, there, not_there}
use Rattle.partial_text.proofs.reading.is_whole.Goals as goal

pub returns-then-not-is_empty-clause-opened : goal.returns-then-not-is_empty-clause-opened
returns-then-not-is_empty-clause-opened c e opened =
    begun_open (out-PartialTake c.args.take.now).tree (some_left (out-PartialTree (out-PartialTake c.args.take.now).tree).branches.items c.is_empty.result (c.is_empty.ensures ∙ ap (λ (l : List PartialBranch). length l == 0) c.as_slice.ensures.value) c.if-not-is_empty.true) opened

pub returns-clause-whole : goal.returns-clause-whole
returns-clause-whole c e =
    let none = none_left (out-PartialTree (out-PartialTake c.args.take.now).tree).branches.items c.is_empty.result (c.is_empty.ensures ∙ ap (λ (l : List PartialBranch). length l == 0) c.as_slice.ensures.value) c.if-not-is_empty.false in
    let some = there (out-PartialTree (out-PartialTake c.args.take.now).tree).rest (sym c.is_some.ensures ∙ e) in
    made_whole c.args.take.now some.0 none some.1

pub returns-clause-opened : goal.returns-clause-opened
returns-clause-opened c e opened = rest_open (out-PartialTake c.args.take.now).tree (not_there (out-PartialTree (out-PartialTake c.args.take.now).tree).rest (sym c.is_some.ensures ∙ e))
