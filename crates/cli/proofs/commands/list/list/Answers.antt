use Rattle.std.proofs.Common.{refl}
use Rattle.run_laws.specs.ListSteps.{list_steps, listed_files}
use Rattle.cli.proofs.StoringLemmas.{refused_first, file_refused, all_in}
use Rattle.cli.proofs.commands.list.list.Goals as goal

pub returns-in_err-listed : goal.returns-in_err-listed
returns-in_err-listed g c =
    refused_first g.H.FileStore.contents g.H.FileStore.history g.H.FileStore.stored (λ f. list_steps f c.args.words) (listed_files c.args.words) (λ s. s.answer) _ _ c.in_err-listed.field-0.0 c.from_residual.result
    c.list_files.ensures.same c.list_files.ensures.kept c.from_residual.ensures.1 c.in_err-listed.ensures.steps

pub returns : goal.returns
returns g c =
    file_refused g.H.FileStore.contents g.H.FileStore.history g.H.FileStore.stored (λ f. list_steps f c.args.words) (listed_files c.args.words) (λ s. s.answer) _ _ _ _
    c.list_files.ensures.same c.list_files.ensures.kept c.in_ok-listed.ensures.steps c.in-Err.refusal c.in-Err.ensures

pub returns-in-Ok : goal.returns-in-Ok
returns-in-Ok g c =
    all_in g.H.FileStore.contents g.H.FileStore.history g.H.FileStore.stored (λ f. list_steps f c.args.words) (listed_files c.args.words) (λ s. s.answer) _ _ _ _
    c.list_files.ensures.same c.list_files.ensures.kept c.in_ok-listed.ensures.steps _ refl c.in-Ok.ensures
