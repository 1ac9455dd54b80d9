use Rattle.list_laws.proofs.Listed.{complete_tree_lists}
use Rattle.list_laws.proofs.laws.complete_trees_list.Goals as goal

pub returns : goal.returns
returns c = complete_tree_lists
