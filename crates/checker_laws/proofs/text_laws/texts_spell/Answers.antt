use Rattle.checker_laws.proofs.Spelling.{texts_spell}
use Rattle.checker_laws.proofs.text_laws.texts_spell.Goals as goal

pub returns : goal.returns
returns c = texts_spell
