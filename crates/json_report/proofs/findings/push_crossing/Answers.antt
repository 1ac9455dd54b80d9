use Rattle.std.proofs.Common.{append_assoc}
use Rattle.json_report.specs.FindingsObject.{set_object}
use Rattle.json_report.proofs.Adding.{token, part, last_token}
use Rattle.json_report.proofs.findings.push_crossing.Goals as goal

pub returns : goal.returns
returns c =
    rw (← c.as_bytes.ensures, append_assoc (set_object c.args.first))
    (part _ c.in_ok-push_kind.ensures
    (part _ c.in_ok-push_bytes.ensures
    (token c.in_ok-key.ensures
    (token c.in_ok-begin_array.ensures
    (part _ c.in_ok-push_set.ensures (part _ c.in_ok-push_set-2.ensures (last_token _ c.end_array.ensures))))))).adds
