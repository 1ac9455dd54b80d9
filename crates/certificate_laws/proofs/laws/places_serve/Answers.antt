use Rattle.certificate_laws.proofs.Places.{places_serve}
use Rattle.certificate_laws.proofs.laws.places_serve.Goals as goal

pub returns : goal.returns
returns c = places_serve
