use Rattle.std.proofs.Common.{◌-◌, length, map, take}
use Rattle.certificate_lines.specs.Items.{allowances_wanted}
use Rattle.certificate_lines.specs.declared.item.Item.TheVariants as item
use Rattle.certificate_text.specs.Tests.{Fitting}
use Rattle.certificate_text.proofs.fitting.allowances_fit.Given as goal

abbrev pub invariant-loop-allowance : goal.invariant-loop-allowance
invariant-loop-allowance l =
    Fitting (allowances_wanted (length l.allowances)) (map item.Allows (take l.allowance-index l.allowances)) (allowances_wanted (length l.allowances - l.allowance-index))
