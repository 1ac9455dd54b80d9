use Rattle.list_laws.proofs.Certified.{complete_certificate_lists}
use Rattle.list_laws.proofs.laws.complete_certificates_list.Goals as goal

pub returns : goal.returns
returns c = complete_certificate_lists
