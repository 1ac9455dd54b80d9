use Rattle.certificate_laws.proofs.Decided.{leaves_are_decided}
use Rattle.certificate_laws.proofs.laws.leaves_are_decided.Goals as goal

pub returns : goal.returns
returns c = leaves_are_decided
