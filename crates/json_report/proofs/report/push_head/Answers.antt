use Rattle.json_report.proofs.Adding.{part, last}
use Rattle.json_report.proofs.report.push_head.Goals as goal

pub returns : goal.returns
returns c =
    rw (← c.seats_left.ensures.value, ← c.from.ensures, ← c.counties.ensures.value)
    (part _ c.in_ok-push_first.ensures (part _ c.in_ok-push_number.ensures (last _ _ c.push_number-2.ensures))).adds
