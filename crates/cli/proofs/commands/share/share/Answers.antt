use Rattle.run_laws.specs.ShareSteps.{share_answer, share_steps, joined_file}
use Rattle.cli.proofs.StoringLemmas.{lent_stored, refused_first, file_refused, all_in}
use Rattle.cli.proofs.commands.share.share.Goals as goal

pub returns-in_err-shared : goal.returns-in_err-shared
returns-in_err-shared g c =
    refused_first g.H.FileStore.contents g.H.FileStore.history g.H.FileStore.stored (λ f. share_steps f c.args.words) (joined_file c.args.words) share_answer _ _ c.in_err-shared.field-0.0 c.from_residual.result
    c.share_files.ensures.same c.share_files.ensures.kept c.from_residual.ensures.1 c.in_err-shared.ensures.steps

pub returns-in-Err : goal.returns-in-Err
returns-in-Err g c =
    file_refused g.H.FileStore.contents g.H.FileStore.history g.H.FileStore.stored (λ f. share_steps f c.args.words) (joined_file c.args.words) share_answer _ _ _ c.in_ok-shared.shared c.share_files.ensures.same c.share_files.ensures.kept
    c.in_ok-shared.ensures.steps c.in-Err.refusal (lent_stored g.H.FileStore.contents g.H.FileStore.history g.H.FileStore.stored (λ t. t.items) c.args.words.certificate _ _ _ _ _ c.as_ref.ensures.value c.in-Err.ensures)

pub returns-in-Ok : goal.returns-in-Ok
returns-in-Ok g c =
    all_in g.H.FileStore.contents g.H.FileStore.history g.H.FileStore.stored (λ f. share_steps f c.args.words) (joined_file c.args.words) share_answer _ _ _ c.in_ok-shared.shared c.share_files.ensures.same c.share_files.ensures.kept
    c.in_ok-shared.ensures.steps _ c.answer_to.ensures (lent_stored g.H.FileStore.contents g.H.FileStore.history g.H.FileStore.stored (λ t. t.items) c.args.words.certificate _ _ _ _ _ c.as_ref.ensures.value c.in-Ok.ensures)
