use Rattle.std.proofs.Common.{◌≤◌, All, ap, ◌∙◌, subst}
use Rattle.std.proofs.lemmas.List.Elements.{recursion_from_All}
use Rattle.state_groups.specs.PlacedValues.{codes_of_set}
use Rattle.board_laws.specs.PartialTrees.{take_begun}
use Rattle.partial_trees.specs.PartialValue.{partial_of}
use Rattle.partial_trees.specs.declared.tree.PartialTake.{roll-PartialTake}
use Rattle.partial_trees.proofs.PartialLists.{made_take}
use Rattle.branch_bound.proofs.parts.push_part.Goals as goal

pub returns-clause-pushed : goal.returns-clause-pushed
returns-clause-pushed g c =
    let codes = c.in_ok-codes.codes in (
      roll-PartialTake (record { codes = codes; tree = c.args.part }),
      c.in_ok-push.ensures.items,
      λ others. made_take codes c.args.part others ∙ ap (λ z. take_begun z (partial_of c.args.part) others) c.in_ok-codes.ensures.value,
    )

pub returns-clause-small : goal.returns-clause-small
returns-clause-small g c =
    let group = codes_of_set c.args.input.now.graph.now.ordered.now.order g.C.CountySet.test c.args.group.now in
    recursion_from_All (λ z. z ≤ 99999) group (subst (All (λ z. z ≤ 99999)) c.in_ok-codes.ensures.value c.in_ok-codes.ensures.small)
