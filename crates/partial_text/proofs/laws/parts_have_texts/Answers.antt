use Rattle.partial_text.proofs.PartTexts.{have_texts}
use Rattle.partial_text.proofs.laws.parts_have_texts.Goals as goal

pub returns : goal.returns
returns c = have_texts
