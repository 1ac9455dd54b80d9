use Rattle.std.proofs.Common.{refl}
use Rattle.run_laws.specs.SolveSteps.{solve_steps, files_to_store}
use Rattle.cli.proofs.StoringLemmas.{refused_first, file_refused, all_in}
use Rattle.cli.proofs.commands.solve.solve.Goals as goal

pub returns-in_err-solved : goal.returns-in_err-solved
returns-in_err-solved g c =
    refused_first g.H.FileStore.contents g.H.FileStore.history g.H.FileStore.stored (λ f. solve_steps f c.args.words) (files_to_store c.args.words) (λ s. s.answer) _ _ c.in_err-solved.field-0.0 c.from_residual.result
    c.solve_files.ensures.same c.solve_files.ensures.kept c.from_residual.ensures.1 c.in_err-solved.ensures.steps

pub returns-in-Ok : goal.returns-in-Ok
returns-in-Ok g c =
    all_in g.H.FileStore.contents g.H.FileStore.history g.H.FileStore.stored (λ f. solve_steps f c.args.words) (files_to_store c.args.words) (λ s. s.answer) _ _ _ _
    c.solve_files.ensures.same c.solve_files.ensures.kept c.in_ok-solved.ensures.steps _ refl c.in-Ok.ensures

pub returns : goal.returns
returns g c =
    file_refused g.H.FileStore.contents g.H.FileStore.history g.H.FileStore.stored (λ f. solve_steps f c.args.words) (files_to_store c.args.words) (λ s. s.answer) _ _ _ _
    c.solve_files.ensures.same c.solve_files.ensures.kept c.in_ok-solved.ensures.steps c.in-Err.refusal c.in-Err.ensures
