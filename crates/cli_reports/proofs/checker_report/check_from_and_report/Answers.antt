use Rattle.std.proofs.Common.{ℕ, List, sym, subst}
use Rattle.county_problem.specs.ProblemValue.{problem_of}
use Rattle.certificate_checker.specs.Answers.{IsCheckAnswer}
use Rattle.cli_reports.proofs.checker_report.check_from_and_report.Goals as goal

pub returns-in-Ok-report_verdict-clause-checked : goal.returns-in-Ok-report_verdict-clause-checked
returns-in-Ok-report_verdict-clause-checked g c =
    let bytes = c.in-Ok.ensures.verdict in
    record {
      bytes = bytes.pulled;
      are_given = bytes.given;
      checked = record {
        verdict = c.in-Ok.verdict;
        is = λ text sees. subst (λ (t : List ℕ). IsCheckAnswer (problem_of c.args.tabled.now.problem) t c.args.budget c.in-Ok.verdict) (sym sees.text) (bytes.answer sees.later sees.may);
        best = c.in-Ok.ensures.best;
        impossible = c.in-Ok.ensures.impossible;
        said = c.in-Ok-report_verdict.ensures;
      };
    }
