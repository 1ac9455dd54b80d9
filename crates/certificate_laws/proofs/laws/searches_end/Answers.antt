use Rattle.certificate_laws.proofs.Searches.{search_ends}
use Rattle.certificate_laws.proofs.laws.searches_end.Goals as goal

pub returns : goal.returns
returns c = search_ends
