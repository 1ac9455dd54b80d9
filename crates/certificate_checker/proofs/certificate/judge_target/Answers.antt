use Rattle.std.proofs.Common.{◌+◌, subst}
use Rattle.county_problem.specs.ProblemValue.{problem_of}
use Rattle.certificate_data.specs.RoundValue.{target_of}
use Rattle.checker_laws.specs.Verdict.{IsTargetFault}
use Rattle.certificate_checker.specs.Certificates.{StopsAt}
use Rattle.certificate_checker.proofs.Targets.{target_stopped}
use Rattle.certificate_checker.proofs.certificate.judge_target.Goals as goal

pub returns-in-Err : goal.returns-in-Err
returns-in-Err c =
    subst (λ n. StopsAt (IsTargetFault (problem_of c.args.problem.now) (target_of c.args.round.now.target)) (n + 3) c.target_stop.result) c.tolerance_line.ensures
    (target_stopped (problem_of c.args.problem.now) c.args.round.now.target c.in-Some.grouping c.in-Some.is c.in-Err.fault c.in-Err.ensures.fault (c.tolerance_line.result + 3) c.target_stop.result c.target_stop.ensures)
