use Rattle.certificate_laws.proofs.Agreement.{proof_tree_excludes}
use Rattle.certificate_laws.proofs.laws.proof_trees_exclude.Goals as goal

pub returns : goal.returns
returns c = proof_tree_excludes
