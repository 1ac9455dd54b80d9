use Rattle.std.proofs.lemmas.Result.{IfOk-weaker}
use Rattle.cli_reports.proofs.judge_report.report_by.Goals as goal

pub returns-clause-said : goal.returns-clause-said
returns-clause-said c = IfOk-weaker c.report_beside.result _ _ (λ r said. record {
  verdict = c.in_ok-verdict.verdict;
  is = c.in_ok-verdict.ensures.verdict;
  said = said;
  right = c.in_ok-verdict.ensures.best;
}) c.report_beside.ensures.said
