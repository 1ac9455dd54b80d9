use Rattle.std.proofs.Common.{map, take}
use Rattle.certificate_lines.specs.declared.item.Item.TheVariants as item
use Rattle.certificate_text.specs.Writing.{Added}
use Rattle.certificate_text.proofs.lines.push_allowances.Given as goal

abbrev pub invariant-loop-allowance : goal.invariant-loop-allowance
invariant-loop-allowance l = Added (map item.Allows (take l.allowance-index l.allowances)) l.fn.out.items l.out.items
