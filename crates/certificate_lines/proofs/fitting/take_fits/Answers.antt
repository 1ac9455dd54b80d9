use Rattle.certificate_lines.proofs.FittingLaws.{set_tested}
use Rattle.certificate_lines.proofs.fitting.take_fits.Goals as goal

pub returns : goal.returns
returns c = set_tested c.has_some_codes.result c.args.codes.now c.has_some_codes.ensures
