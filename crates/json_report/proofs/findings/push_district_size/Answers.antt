use Rattle.json_report.proofs.Adding.{part, last}
use Rattle.json_report.proofs.findings.push_district_size.Goals as goal

pub returns : goal.returns
returns c =
    rw (← c.as_bytes.ensures)
    (part _ c.in_ok-push_kind.ensures (part _ c.in_ok-push_bytes.ensures (last _ _ c.push_number.ensures))).adds
