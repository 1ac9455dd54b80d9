use Rattle.std.proofs.Common.{[], ◌∷◌, ◌++◌, ap, ◌∙◌}
use Rattle.board_laws.specs.PartialTrees.{begun, open_leaf}
use Rattle.partial_trees.specs.PartialValue.{list_of_begun}
use Rattle.partial_trees.specs.declared.tree.PartialBranch.{roll-PartialBranch}
use Rattle.branch_bound.proofs.OpenParts.{one_branch}
use Rattle.branch_bound.proofs.parts.begun_branch.Goals as goal

pub returns-clause-branch : goal.returns-clause-branch
returns-clause-branch g c =
    let made = roll-PartialBranch (record { county = c.code-county.result; limit = c.args.limit; takes = c.args.takes }) in
    one_branch c.code-county.result c.args.limit c.args.takes c.push.new.self (c.in_ok-push.ensures.items ∙ ap (λ z. z ++ made ∷ []) c.new-branches.ensures.items)
    ∙ ap (λ z. begun z c.args.limit (list_of_begun c.args.takes.items) open_leaf) c.code-county.ensures
