use Rattle.std.proofs.Common.{append_assoc}
use Rattle.json_report.proofs.Adding.{token, part, last_token}
use Rattle.list_report.proofs.json_listing.push_choice.Goals as goal

pub returns : goal.returns
returns c =
    rw append_assoc
    (token c.in_ok-begin_object.ensures
    (part _ c.in_ok-push_number.ensures
    (token c.in_ok-key.ensures
    (token c.in_ok-begin_array.ensures
    (part _ c.in_ok-push_numbers.ensures
    (token c.in_ok-end_array.ensures (last_token _ c.end_object.ensures))))))).adds
