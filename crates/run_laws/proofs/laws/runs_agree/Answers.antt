use Rattle.run_laws.proofs.Agreement.{agree}
use Rattle.run_laws.proofs.laws.runs_agree.Goals as goal

pub returns : goal.returns
returns c = agree
