use Rattle.std.proofs.Common.{◌-◌, arith}
use Rattle.state_groups.proofs.windows.divides.Goals as goal

pub returns-then-low-high : goal.returns-then-low-high
returns-then-low-high c = λ people least greatest low high window.
    c.may_suit.ensures (c.args.all - people)
    (omega (arith, c.saturating_sub.ensures, c.min-high.ensures, greatest, high))
    (omega (arith, c.saturating_sub-then-low-high.ensures, c.max-low.ensures, least, low))
    window
