use Rattle.std.proofs.Common.{[], ◌∷◌}
use Rattle.certificate_text.specs.Spelling.{IsSpelling}
use Rattle.certificate_data.specs.TreeValue.{certificate_of}
use Rattle.certificate_text.specs.Trees.{items_of_certificate}
use Rattle.certificate_lines.specs.declared.item.Wanted.TheVariants as want
use Rattle.certificate_text.proofs.GiveLaws.{gives_found, gives_fault, gives_only}
use Rattle.certificate_text.proofs.OneSpelling.{certificate_back}
use Rattle.certificate_text.proofs.reading.read.Goals as goal

pub returns-clause-found : goal.returns-clause-found
returns-clause-found c =
    gives_found (λ d. items_of_certificate (certificate_of d)) (want.Head ∷ []) c.args.text.now (λ d. IsSpelling c.args.text.now (certificate_of d)) (λ x fits same. record { fits = fits; text_is = same }) c.certificate_at.result c.certificate_at.ensures

pub returns-clause-only : goal.returns-clause-only
returns-clause-only c x is = gives_only (λ d. certificate_of d) items_of_certificate certificate_back (want.Head ∷ []) c.args.text.now x c.certificate_at.result is.fits is.text_is c.certificate_at.ensures

pub returns-clause-fault : goal.returns-clause-fault
returns-clause-fault c = gives_fault (λ d. items_of_certificate (certificate_of d)) (want.Head ∷ []) c.args.text.now c.certificate_at.result c.certificate_at.ensures
