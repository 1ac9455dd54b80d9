use Rattle.county_problem.specs.ProblemValue.{problem_of}
use Rattle.certificate_checker.proofs.Answering.{answered, answered_within, names_best, shows_impossible, checked_text}
use Rattle.certificate_checker.proofs.checking.check_over.Goals as goal

pub returns-clause-verdict : goal.returns-clause-verdict
returns-clause-verdict g c =
    answered (problem_of c.args.problem.now) c.args.text.now c.args.budget c.check_source.result
    (checked_text (problem_of c.args.problem.now) c.of_certificate-items.result c.args.text.now c.args.budget c.check_source.result c.check_source.ensures c.of_certificate-items.ensures)

pub returns-clause-within : goal.returns-clause-within
returns-clause-within g c =
    answered_within (problem_of c.args.problem.now) c.args.text.now c.args.budget c.check_source.result
    (checked_text (problem_of c.args.problem.now) c.of_certificate-items.result c.args.text.now c.args.budget c.check_source.result c.check_source.ensures c.of_certificate-items.ensures)

pub returns-clause-best : goal.returns-clause-best
returns-clause-best g c =
    names_best (problem_of c.args.problem.now) c.args.text.now c.args.budget c.check_source.result
    (answered (problem_of c.args.problem.now) c.args.text.now c.args.budget c.check_source.result
    (checked_text (problem_of c.args.problem.now) c.of_certificate-items.result c.args.text.now c.args.budget c.check_source.result c.check_source.ensures c.of_certificate-items.ensures))

pub returns-clause-impossible : goal.returns-clause-impossible
returns-clause-impossible g c =
    shows_impossible (problem_of c.args.problem.now) c.args.text.now c.args.budget c.check_source.result
    (answered (problem_of c.args.problem.now) c.args.text.now c.args.budget c.check_source.result
    (checked_text (problem_of c.args.problem.now) c.of_certificate-items.result c.args.text.now c.args.budget c.check_source.result c.check_source.ensures c.of_certificate-items.ensures))
