use Rattle.certificate_lines.specs.declared.item.Wanted.TheVariants as want
use Rattle.certificate_lines.proofs.ReadLaws.{stacked_one}
use Rattle.certificate_lines.proofs.line_items.tolerance_item.Goals as goal

pub returns-clause-stacked : goal.returns-clause-stacked
returns-clause-stacked c = stacked_one c.args.stack.now.items c.push.new.self.items (want.Order c.args.format) c.push.ensures.items
