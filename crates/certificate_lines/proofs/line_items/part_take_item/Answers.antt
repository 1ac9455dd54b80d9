use Rattle.std.proofs.Common.{◌-◌}
use Rattle.certificate_lines.specs.declared.item.Wanted.TheVariants as want
use Rattle.certificate_lines.proofs.ReadLaws.{stacked_one, stacked_two}
use Rattle.certificate_lines.proofs.line_items.part_take_item.Goals as goal

pub returns-in-Some-clause-stacked : goal.returns-in-Some-clause-stacked
returns-in-Some-clause-stacked c =
    stacked_two c.args.stack.now.items c.want_after_part_take.new.stack.items (want.PartTakes c.args.format c.args.levels) (want.Part c.args.format (c.args.levels - 1)) c.want_after_part_take.ensures

pub returns-in-None-clause-stacked : goal.returns-in-None-clause-stacked
returns-in-None-clause-stacked c =
    rw (← c.levels_after.ensures) (stacked_one c.args.stack.now.items c.push.new.self.items (want.Part c.args.format c.levels_after.result) c.push.ensures.items)
