use Rattle.std.proofs.Common.{refl}
use Rattle.std.specs.Prelude.{Err, None}
use Rattle.cli_answers.specs.Answers.{answer_of}
use Rattle.cli.specs.Ends.{refusal_by}
use Rattle.cli.proofs.StoringLemmas.{lent_stored, refused_said}
use Rattle.cli.proofs.storing.store_reported.Goals as goal

pub returns-in-Ok : goal.returns-in-Ok
returns-in-Ok g c =
    let end = lent_stored g.H.FileStore.contents g.H.FileStore.history g.H.FileStore.stored (λ t. t.items) c.args.name c.as_ref.result _ _ _ None c.as_ref.ensures.value c.in-Ok.ensures in
    (end.0, None, end.1, end.2, refl)

pub returns : goal.returns
returns g c =
    let refusal = c.in-Err.refusal in
    let end = lent_stored g.H.FileStore.contents g.H.FileStore.history g.H.FileStore.stored (λ t. t.items) c.args.name c.as_ref.result _ _ _ (refusal_by (Err refusal)) c.as_ref.ensures.value c.in-Err.ensures in
    (end.0, refusal_by (Err refusal), end.1, end.2, refused_said refusal (answer_of c.args.reported.answer))
