use Rattle.std.proofs.Common.{◌-◌, length, map, take}
use Rattle.certificate_lines.specs.Items.{groups_wanted}
use Rattle.certificate_lines.specs.Writing.{Wrote}
use Rattle.certificate_lines.specs.declared.item.Item.TheVariants as item
use Rattle.board_report.proofs.event_writing.push_groups.Given as goal

abbrev pub invariant-loop-group : goal.invariant-loop-group
invariant-loop-group l =
    Wrote (groups_wanted (length l.groups)) (map item.Grouped (take l.group-index l.groups)) (groups_wanted (length l.groups - l.group-index)) l.fn.out.items l.out.items
