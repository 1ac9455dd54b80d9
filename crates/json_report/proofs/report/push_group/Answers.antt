use Rattle.json_report.proofs.Adding.{token, part, last_token}
use Rattle.json_report.proofs.report.push_group.Goals as goal

pub returns : goal.returns
returns c =
    rw (← c.from.ensures, ← c.as_slice.ensures)
    (token c.in_ok-begin_object.ensures
    (part _ c.in_ok-push_number.ensures
    (part _ c.in_ok-push_number-2.ensures
    (part _ c.in_ok-push_number-3.ensures
    (token c.in_ok-key.ensures (part _ c.in_ok-push_codes.ensures (last_token _ c.end_object.ensures))))))).adds
