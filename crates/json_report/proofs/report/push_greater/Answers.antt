use Rattle.grouping_laws.specs.Grouping.{sets_of}
use Rattle.json_report.specs.ReportObject.{counts_tokens}
use Rattle.json_report.proofs.Adding.{token, part, last_of}
use Rattle.json_report.proofs.report.push_greater.Goals as goal

pub returns : goal.returns
returns c =
    (part _ c.in_ok-push_report.ensures
    (token c.in_ok-key.ensures
    (last_of _ (λ g. counts_tokens (sets_of g)) c.args.target.now.groups.items c.as_slice.ensures.value
    c.push_counts.ensures))).adds
