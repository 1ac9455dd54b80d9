use Rattle.checker_laws.proofs.TextVerdicts.{text_verdicts_show}
use Rattle.checker_laws.proofs.text_laws.text_verdicts_show.Goals as goal

pub returns : goal.returns
returns c = text_verdicts_show
