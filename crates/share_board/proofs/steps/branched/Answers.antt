use Rattle.std.proofs.Common.{◌≡◌, ◌∷◌, ◌++◌, [], List, None, sym, ap, ◌∙◌, subst}
use Rattle.board_laws.specs.PartialTrees.{begun}
use Rattle.partial_trees.specs.PartialValue.{partial_of, list_of_begun, list_onto}
use Rattle.partial_trees.specs.declared.tree.PartialTree.{out-PartialTree}
use Rattle.partial_trees.specs.declared.tree.PartialBranch.{PartialBranch, roll-PartialBranch}
use Rattle.partial_trees.proofs.PartialLists.{made_takes}
use Rattle.share_board.proofs.SplitTrees.{part_behind}
use Rattle.share_board.proofs.steps.branched.Goals as goal

pub returns : goal.returns
returns g c =
    let raised = partial_of c.args.raised in
    let b = roll-PartialBranch (record { county = c.code.result; limit = None; takes = c.args.takes }) in
    let first = c.in_ok-push.ensures.items ∙ ap (λ (l : List PartialBranch). l ++ b ∷ []) c.new-branches.ensures.items in
    let all = c.in_ok-append.ensures.items ∙ ap (λ (l : List PartialBranch). l ++ (out-PartialTree c.args.raised).branches.items) first in
    part_behind c.args.raised c.append.new.self (b ∷ []) all
    ∙ made_takes c.code.result None c.args.takes raised
    ∙ ap (λ z. begun z None (list_of_begun c.args.takes.items) raised) c.code.ensures
