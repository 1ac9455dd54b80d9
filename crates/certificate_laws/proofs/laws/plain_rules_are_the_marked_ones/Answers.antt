use Rattle.certificate_laws.proofs.MarkLemmas.{plain_is_marked}
use Rattle.certificate_laws.proofs.laws.plain_rules_are_the_marked_ones.Goals as goal

pub returns : goal.returns
returns c = plain_is_marked
