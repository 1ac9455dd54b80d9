use Rattle.json_report.proofs.Adding.{token, part, last_token}
use Rattle.json_report.proofs.parts.push_run.Goals as goal

pub returns-in_ok-push_number-in-Some-2 : goal.returns-in_ok-push_number-in-Some-2
returns-in_ok-push_number-in-Some-2 c =
    rw c.in-Some.is
    (token c.in_ok-begin_object-in-Some.ensures
    (part _ c.in_ok-push_number-in-Some.ensures
    (part _ c.in_ok-push_number-in-Some-2.ensures (last_token _ c.end_object.ensures)))).adds
