use Rattle.std.proofs.Common.{append_assoc}
use Rattle.json_report.proofs.Adding.{token, part, last}
use Rattle.json_report.proofs.findings.push_wrong_number.Goals as goal

pub returns : goal.returns
returns c =
    rw (append_assoc, ← c.from.ensures, ← c.from-2.ensures)
    (part _ c.in_ok-push_kind.ensures
    (token c.in_ok-key.ensures
    (part _ c.in_ok-push_set.ensures
    (part _ c.in_ok-push_number.ensures (last _ _ c.push_number-2.ensures))))).adds
