use Rattle.county_problem.specs.Building.{problem_fault}
use Rattle.cli_answers.specs.Refusals.{problem_answer}
use Rattle.run_laws.specs.ProblemSteps.{IsBuilt}
use Rattle.run_laws.proofs.RunLemmas.{refused, fault_stands}
use Rattle.cli.proofs.input.problem.build.Goals as goal

pub returns-in-Err : goal.returns-in-Err
returns-in-Err c n =
    refused c.refuse_problem.result problem_answer c.in-Err.fault (IsBuilt c.args.counties.now c.args.pairs.now c.args.withdrawn.now c.args.chamber c.args.tolerance) n c.refuse_problem.ensures.answer
    (λ shown. fault_stands (problem_fault c.args.counties.now c.args.pairs.now c.args.withdrawn.now c.args.chamber c.args.tolerance) c.in-Err.fault (c.refuse_problem.ensures.shown shown) c.in-Err.ensures.fault)
