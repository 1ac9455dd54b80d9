use Rattle.std.proofs.lemmas.Result.{IfOk-weaker}
use Rattle.cli_answers.specs.Answers.{answer_of}
use Rattle.run_laws.proofs.Judgments.{says_greater}
use Rattle.cli_reports.specs.Texts.{tabled_of}
use Rattle.cli_reports.proofs.judge_report.report_beside_best.Goals as goal

pub returns-in_default : goal.returns-in_default
returns-in_default c = record {
  said = IfOk-weaker c.greater_report.result _ _ (λ r said.
      says_greater c.args.form (tabled_of c.args.tabled.now) c.args.grouping.groups.items c.args.target c.args.own c.in_ok-best.best c.compare.result (answer_of r.answer) c.requires.own c.in_ok-best.ensures c.compare.ensures.equal c.compare.ensures.greater c.compare.ensures.less c.requires.lawful c.requires.best
      c.in_default.not-Equal said) c.greater_report.ensures.said;
  table = c.greater_report.ensures.table;
}
