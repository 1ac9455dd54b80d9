use Rattle.json_report.proofs.Adding.{token, part, last_token}
use Rattle.list_report.proofs.json_listing.push_alternative.Goals as goal

pub returns : goal.returns
returns c =
    (token c.in_ok-begin_object.ensures
    (part _ c.in_ok-push_number.ensures
    (token c.in_ok-key.ensures (part _ c.in_ok-push_sets.ensures (last_token _ c.end_object.ensures))))).adds
