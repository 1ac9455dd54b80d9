use Rattle.std.proofs.Common.{refl}
use Rattle.certificate_lines.specs.Spelling.{text_of_items}
use Rattle.certificate_data.specs.TreeValue.{certificate_of}
use Rattle.certificate_text.specs.Trees.{items_of_certificate}
use Rattle.certificate_text.proofs.fitting.has_text.Goals as goal

pub returns : goal.returns
returns c = (
  (λ e. (text_of_items (items_of_certificate (certificate_of c.args.certificate.now)), record { fits = c.certificate_fits.ensures.0 e; text_is = refl })),
  (λ s. c.certificate_fits.ensures.1 s.1.fits),
)
