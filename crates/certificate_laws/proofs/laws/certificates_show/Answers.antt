use Rattle.certificate_laws.proofs.Agreement.{certificate_shows}
use Rattle.certificate_laws.proofs.laws.certificates_show.Goals as goal

pub returns : goal.returns
returns c = certificate_shows
