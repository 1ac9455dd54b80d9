use Rattle.std.proofs.Common.{refl}
use Rattle.run_laws.specs.JudgeSteps.{audit_steps}
use Rattle.run_laws.specs.Storing.{named_file}
use Rattle.cli.proofs.StoringLemmas.{lent_stored, refused_first, file_refused, all_in}
use Rattle.cli.proofs.commands.audit.audit.Goals as goal

pub returns-in_err-plan : goal.returns-in_err-plan
returns-in_err-plan g c =
    refused_first g.H.FileStore.contents g.H.FileStore.history g.H.FileStore.stored (λ f. audit_steps f c.args.words) (λ s. named_file c.args.words.districts s.districts) (λ s. s.answer) _ _ c.in_err-plan.field-0.0 c.from_residual.result
    c.audit_files.ensures.same c.audit_files.ensures.kept c.from_residual.ensures.1 c.in_err-plan.ensures.steps

pub returns : goal.returns
returns g c =
    file_refused g.H.FileStore.contents g.H.FileStore.history g.H.FileStore.stored (λ f. audit_steps f c.args.words) (λ s. named_file c.args.words.districts s.districts) (λ s. s.answer) _ _ _ _ c.audit_files.ensures.same c.audit_files.ensures.kept
    c.in_ok-plan.ensures.steps c.in-Err.refusal (lent_stored g.H.FileStore.contents g.H.FileStore.history g.H.FileStore.stored (λ t. t.items) c.args.words.districts _ _ _ _ _ c.as_ref.ensures.value c.in-Err.ensures)

pub returns-in-Ok : goal.returns-in-Ok
returns-in-Ok g c =
    all_in g.H.FileStore.contents g.H.FileStore.history g.H.FileStore.stored (λ f. audit_steps f c.args.words) (λ s. named_file c.args.words.districts s.districts) (λ s. s.answer) _ _ _ _ c.audit_files.ensures.same c.audit_files.ensures.kept
    c.in_ok-plan.ensures.steps _ refl (lent_stored g.H.FileStore.contents g.H.FileStore.history g.H.FileStore.stored (λ t. t.items) c.args.words.districts _ _ _ _ _ c.as_ref.ensures.value c.in-Ok.ensures)
