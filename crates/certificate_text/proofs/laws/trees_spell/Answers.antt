use Rattle.certificate_text.proofs.Spelling.{spell}
use Rattle.certificate_text.proofs.laws.trees_spell.Goals as goal

pub returns : goal.returns
returns c = spell
