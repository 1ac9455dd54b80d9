use Rattle.json_report.proofs.Adding.{token, part, last_token}
use Rattle.json_report.proofs.size.push_county.Goals as goal

pub returns : goal.returns
returns c =
    rw (← c.from.ensures)
    (token c.in_ok-begin_object.ensures
    (token c.in_ok-key.ensures
    (part _ c.in_ok-push_code.ensures
    (part _ c.in_ok-push_number.ensures
    (part _ c.in_ok-push_seats.ensures (last_token _ c.end_object.ensures)))))).adds
