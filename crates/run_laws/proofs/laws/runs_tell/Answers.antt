use Rattle.run_laws.proofs.Telling.{runs_tell as told}
use Rattle.run_laws.proofs.laws.runs_tell.Goals as goal

pub returns : goal.returns
returns c = told
