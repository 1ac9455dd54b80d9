use Rattle.run_laws.specs.Forms.{reads_names}
use Rattle.run_laws.specs.TableSteps.{tabled_problem_in}
use Rattle.cli_reports.specs.Texts.{reported_of}
use Rattle.cli.specs.Streams.{checked_file}
use Rattle.cli.proofs.StepLemmas.{stepped}
use Rattle.cli.proofs.commands.check.check_files.Goals as goal

pub returns-clause-steps : goal.returns-clause-steps
returns-clause-steps g c =
    stepped g.H.FileStore.contents g.H.FileStore.history reported_of _ (λ f. tabled_problem_in f c.args.words.check.problem (reads_names c.args.words.check.problem.common c.args.words.table)) (λ f. checked_file f c.args.words.check) _ _ _ _ c.in_ok-tabled.ensures.steps c.load_tabled_problem.ensures.same c.check_file.ensures.steps
