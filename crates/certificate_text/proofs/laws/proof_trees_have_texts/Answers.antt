use Rattle.certificate_text.proofs.Texts.{have_texts}
use Rattle.certificate_text.proofs.laws.proof_trees_have_texts.Goals as goal

pub returns : goal.returns
returns c = have_texts
