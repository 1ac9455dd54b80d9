use Rattle.certificate_checker.proofs.Agrees.{agrees}
use Rattle.certificate_checker.proofs.laws.checker_agrees.Goals as goal

pub returns : goal.returns
returns c = agrees
