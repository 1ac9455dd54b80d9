use Rattle.std.proofs.Common.{IfOk, subst, sym}
use Rattle.certificate_checker.specs.declared.verdict.Verdict.{Verdict}
use Rattle.cli_answers.specs.Answers.{answer_of}
use Rattle.run_laws.specs.JudgeWithCertificate.{SaysBeside}
use Rattle.cli_reports.specs.Texts.{tabled_of}
use Rattle.cli_reports.proofs.judge_report.report_beside.Goals as goal

pub returns-in-Best-clause-said : goal.returns-in-Best-clause-said
returns-in-Best-clause-said c =
    subst (λ (verdict : Verdict). IfOk c.report_beside_best.result (λ r. SaysBeside c.args.form (tabled_of c.args.tabled.now) c.args.grouping.groups.items verdict (answer_of r.answer)))
    (sym c.in-Best.is) c.report_beside_best.ensures.said
