use Rattle.certificate_text.proofs.OneSpelling.{one_text, one_value, none_begins}
use Rattle.certificate_text.proofs.laws.certificates_have_one_text.Goals as goal

pub returns : goal.returns
returns c = record { one_text = one_text; one_value = one_value; no_prefix = none_begins }
