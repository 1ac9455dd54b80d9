use Rattle.std.proofs.Common.{[]}
use Rattle.run_laws.specs.ProblemSteps.{problem_steps}
use Rattle.run_laws.specs.WorkerSteps.{texts_steps}
use Rattle.written_output.proofs.Texts.{written_none}
use Rattle.cli.proofs.GoingOnLemmas.{proves_stopped, proves_stepped}
use Rattle.cli.proofs.commands.worker.prove_files.Goals as goal

pub returns-in_err-problem-clause-proved : goal.returns-in_err-problem-clause-proved
returns-in_err-problem-clause-proved g c = (
  [],
  written_none (g.W.Sink.contents c.args.out.now) (g.W.Sink.is_failed c.args.out.now) c.args.written.now,
  proves_stopped g.H.FileStore.contents g.H.FileStore.history (λ f. problem_steps f c.args.words.problem) texts_steps _ c.in_err-problem.field-0.0 _ _ c.from_residual.ensures.1 c.in_err-problem.ensures.steps,
)

pub returns-clause-proved : goal.returns-clause-proved
returns-clause-proved g c =
    let proved = c.prove_input.ensures.proved in
    (proved.0, proved.1, proves_stepped g.H.FileStore.contents g.H.FileStore.history (λ f. problem_steps f c.args.words.problem) texts_steps _ _ _ _ c.in_ok-problem.ensures.steps c.load_problem.ensures.same proved.0 c.prove_input.result proved.2)
