use Rattle.list_laws.proofs.Told.{told}
use Rattle.list_laws.proofs.laws.leaves_are_told.Goals as goal

pub returns : goal.returns
returns c = told
