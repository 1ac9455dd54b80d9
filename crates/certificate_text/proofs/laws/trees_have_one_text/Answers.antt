use Rattle.certificate_text.proofs.OneSpelling.{one_tree_text, one_tree, no_tree_begins}
use Rattle.certificate_text.proofs.laws.trees_have_one_text.Goals as goal

pub returns : goal.returns
returns c = record { one_text = one_tree_text; one_value = one_tree; no_prefix = no_tree_begins }
