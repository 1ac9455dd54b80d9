use Rattle.std.proofs.Common.{List, subst}
use Rattle.county_codes.specs.declared.county.County.{County}
use Rattle.cli_answers.specs.Answers.{Comes}
use Rattle.run_laws.specs.ProblemSteps.{counties_steps, problem_over}
use Rattle.cli.proofs.StepLemmas.{stepped}
use Rattle.cli.proofs.input.problem.load_problem.Goals as goal

pub returns-clause-steps : goal.returns-clause-steps
returns-clause-steps g c =
    let state = c.load_counties.new.file_store in
    stepped g.H.FileStore.contents g.H.FileStore.history (λ p. p) _ (λ f. counties_steps f c.args.words.common) (λ f. problem_over f c.args.words) _ _ _ _ c.in_ok-counties.ensures.steps c.load_counties.ensures.same
    (subst (λ (listed : List County). Comes (λ p. p) c.load_problem_over.result (problem_over (g.H.FileStore.contents state) c.args.words listed (g.H.FileStore.history state) (g.H.FileStore.history c.load_problem_over.new.file_store))) c.deref.ensures.value c.load_problem_over.ensures.steps)
