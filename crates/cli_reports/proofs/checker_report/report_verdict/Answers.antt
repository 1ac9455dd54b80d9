use Rattle.std.proofs.Common.{◌≡◌, IfOk, subst, sym}
use Rattle.certificate_checker.specs.declared.verdict.Verdict.{Verdict}
use Rattle.run_laws.specs.CheckSteps.{verdict_said, verdict_table}
use Rattle.cli_reports.specs.Texts.{reported_of, tabled_of}
use Rattle.cli_reports.proofs.checker_report.report_verdict.Goals as goal

pub returns-in-Best : goal.returns-in-Best
returns-in-Best c =
    let t = tabled_of c.args.tabled.now in
    subst (λ (verdict : Verdict). IfOk c.report_best.result (λ r. reported_of r ≡ record { answer = verdict_said c.args.form t verdict; table = verdict_table t verdict })) (sym c.in-Best.is) c.report_best.ensures
