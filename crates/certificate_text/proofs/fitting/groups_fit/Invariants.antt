use Rattle.std.proofs.Common.{◌-◌, length, map, take}
use Rattle.certificate_lines.specs.Items.{groups_wanted}
use Rattle.certificate_lines.specs.declared.item.Item.TheVariants as item
use Rattle.certificate_text.specs.Tests.{Fitting}
use Rattle.certificate_text.proofs.fitting.groups_fit.Given as goal

abbrev pub invariant-loop-group : goal.invariant-loop-group
invariant-loop-group l =
    Fitting (groups_wanted (length l.groups)) (map item.Grouped (take l.group-index l.groups)) (groups_wanted (length l.groups - l.group-index))
