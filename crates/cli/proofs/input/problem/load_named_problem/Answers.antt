use Rattle.std.proofs.Common.{◌≡◌, List, map, subst, refl}
use Rattle.std.specs.Prelude.{Ok, Err}
use Rattle.county_codes.specs.declared.county.County.{County}
use Rattle.pl94_counties.specs.CountyNames.{county_name}
use Rattle.grouping_table.specs.Table.{unnamed_counties as bare_of}
use Rattle.cli_answers.specs.Answers.{AnswerMeets}
use Rattle.run_laws.specs.Steps.{value_step}
use Rattle.run_laws.specs.ProblemSteps.{problem_over}
use Rattle.run_laws.specs.TableSteps.{tabled_by, named_counties_of, named_problem_over}
use Rattle.cli_reports.specs.Texts.{tabled_of}
use Rattle.cli.proofs.StepLemmas.{gave, stepped, stopped}
use Rattle.cli.proofs.TableLemmas.{bare_listed}
use Rattle.cli.proofs.input.problem.load_named_problem.Goals as goal

pub returns-in_err-problem-clause-steps : goal.returns-in_err-problem-clause-steps
returns-in_err-problem-clause-steps g c =
    let state = c.load_named_counties.new.file_store in
    let named = map county_name c.in_ok-named.named.items in
    let met = subst (λ (counties : List County). AnswerMeets c.in_err-problem.field-0.0 (λ a. problem_over (g.H.FileStore.contents state) c.args.words counties (g.H.FileStore.history state) (g.H.FileStore.history c.load_problem_over.new.file_store) (Err a)))
    (bare_listed c.in_ok-named.named.items _ _ _ c.deref-3.ensures.value c.in_ok-counties.ensures c.deref.ensures.value) c.in_err-problem.ensures.steps in
    stepped g.H.FileStore.contents g.H.FileStore.history tabled_of _ (λ f. named_counties_of f c.args.words.common) (λ f. named_problem_over f c.args.words) _ _ _ _ c.in_ok-named.ensures.steps c.load_named_counties.ensures.same
    (stopped g.H.FileStore.contents g.H.FileStore.history tabled_of _ (λ f. problem_over f c.args.words (bare_of named)) (λ _ v. value_step (λ t. t ≡ tabled_by named v)) _ _ _ c.from_residual-in_err-problem.ensures.1 met)

pub returns-clause-steps : goal.returns-clause-steps
returns-clause-steps g c =
    let state = c.load_named_counties.new.file_store in
    let named = map county_name c.in_ok-named.named.items in
    let v = c.in_ok-problem.problem in
    let built = subst (λ (counties : List County). problem_over (g.H.FileStore.contents state) c.args.words counties (g.H.FileStore.history state) (g.H.FileStore.history c.load_problem_over.new.file_store) (Ok v))
    (bare_listed c.in_ok-named.named.items _ _ _ c.deref-3.ensures.value c.in_ok-counties.ensures c.deref.ensures.value) c.in_ok-problem.ensures.steps in
    gave g.H.FileStore.contents g.H.FileStore.history (Ok (tabled_by named v)) (λ f. named_counties_of f c.args.words.common) (λ f. named_problem_over f c.args.words) _ _ _ _ c.in_ok-named.ensures.steps c.load_named_counties.ensures.same
    (gave g.H.FileStore.contents g.H.FileStore.history (Ok (tabled_by named v)) (λ f. problem_over f c.args.words (bare_of named)) (λ _ w. value_step (λ t. t ≡ tabled_by named w)) _ _ _ _ built c.load_problem_over.ensures.same (refl, refl))
