use Rattle.certificate_laws.proofs.Impossible.{impossible_is_leaf}
use Rattle.certificate_laws.proofs.laws.impossible_is_a_leaf.Goals as goal

pub returns : goal.returns
returns c = impossible_is_leaf
