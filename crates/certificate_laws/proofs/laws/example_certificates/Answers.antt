use Rattle.certificate_laws.proofs.Examples.{plain_certificate, wide_certificate, lone_certificate, lone_not_plain}
use Rattle.certificate_laws.proofs.laws.example_certificates.Goals as goal

pub returns-clause-plainly : goal.returns-clause-plainly
returns-clause-plainly c = plain_certificate

pub returns-clause-widely : goal.returns-clause-widely
returns-clause-widely c = wide_certificate

pub returns-clause-alone : goal.returns-clause-alone
returns-clause-alone c = lone_certificate

pub returns-clause-not_plain : goal.returns-clause-not_plain
returns-clause-not_plain c = lone_not_plain
