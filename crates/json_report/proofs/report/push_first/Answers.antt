use Rattle.json_report.proofs.Adding.{token, part, last_token}
use Rattle.json_report.proofs.report.push_first.Goals as goal

pub returns : goal.returns
returns c =
    rw (← c.total_people.ensures.value, ← c.chamber.ensures.value, ← c.from.ensures)
    rw (← c.tolerance-tolerance.ensures.value.0, ← c.tolerance-tolerance.ensures.value.1, ← c.from-2.ensures, ← c.from-3.ensures)
    (part _ c.in_ok-push_number.ensures
    (part _ c.in_ok-push_number-2.ensures
    (token c.in_ok-key.ensures
    (token c.in_ok-begin_array.ensures
    (token c.in_ok-u64.ensures (token c.in_ok-u64-2.ensures (last_token _ c.end_array.ensures))))))).adds
