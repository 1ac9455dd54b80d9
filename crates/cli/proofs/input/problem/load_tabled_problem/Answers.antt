use Rattle.std.proofs.Common.{◌≡◌, Bool, false, None, refl, sym, subst, ◌∙◌}
use Rattle.std.specs.Prelude.{Ok}
use Rattle.run_laws.specs.Forms.{reads_names}
use Rattle.run_laws.specs.Steps.{value_step}
use Rattle.run_laws.specs.ProblemSteps.{problem_steps}
use Rattle.run_laws.specs.TableSteps.{untabled, tabled_problem_in}
use Rattle.cli_reports.specs.declared.table_runs.Tabled.{Tabled}
use Rattle.cli_reports.specs.Texts.{tabled_of}
use Rattle.run_laws.proofs.RunLemmas.{went_on}
use Rattle.cli.proofs.input.problem.load_tabled_problem.Goals as goal

pub returns-clause-steps : goal.returns-clause-steps
returns-clause-steps g c =
    let files = g.H.FileStore.contents c.args.file_store.now in
    let words = c.args.words in
    let before = g.H.FileStore.history c.args.file_store.now in
    let after = g.H.FileStore.history c.load_problem.new.file_store in
    let v = c.in_ok-problem.problem in
    let made : Tabled = record { problem = v; named = None } in
    let plain : reads_names words.common c.args.table ≡ false = sym c.reads_names.ensures ∙ c.if-reads_names.false in
    subst (λ (names : Bool). tabled_problem_in files words names before after (Ok (tabled_of made))) (sym plain)
    (went_on tabled_of (Ok made) (problem_steps files words) (λ w. value_step (λ t. t ≡ untabled w)) v before after after c.in_ok-problem.ensures.steps (refl, refl))
