use Rattle.certificate_lines.proofs.FittingLaws.{order_tested}
use Rattle.certificate_lines.proofs.fitting.order_fits.Goals as goal

pub returns : goal.returns
returns c = order_tested c.has_few_codes.result c.args.order.now c.has_few_codes.ensures
