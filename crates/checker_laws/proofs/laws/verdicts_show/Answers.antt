use Rattle.checker_laws.proofs.Verdicts.{verdicts_show}
use Rattle.checker_laws.proofs.laws.verdicts_show.Goals as goal

pub returns : goal.returns
returns c = verdicts_show
