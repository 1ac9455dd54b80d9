use Rattle.certificate_laws.proofs.Lists.{lists_serve}
use Rattle.certificate_laws.proofs.laws.lists_serve.Goals as goal

pub returns : goal.returns
returns c = lists_serve
