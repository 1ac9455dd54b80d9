use Rattle.std.proofs.Common.{None, ap, ◌∙◌}
use Rattle.board_laws.specs.PartialTrees.{open_leaf}
use Rattle.partial_trees.specs.PartialValue.{list_onto}
use Rattle.partial_trees.proofs.PartialLists.{made_tree}
use Rattle.share_board.proofs.parts.open_place.Goals as goal

pub returns : goal.returns
returns c = made_tree c.new.result None ∙ ap (λ z. list_onto z open_leaf) c.new.ensures.items
