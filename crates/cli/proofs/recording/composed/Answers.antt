use Rattle.std.proofs.Common.{◌∙◌, ℕ, List, subst}
use Rattle.std.proofs.lemmas.Option.{IfSome_then}
use Rattle.cli_record.specs.RunRecord.{IsRecord, sums_between}
use Rattle.cli.specs.Delivery.{texts}
use Rattle.cli.proofs.recording.composed.Goals as goal

pub returns : goal.returns
returns g c = λ before front is kept.
    IfSome_then c.record_since.result c.record_since.ensures (λ v h.
    subst (λ (text : List ℕ). IsRecord (texts c.args.words.now) c.args.command.now (sums_between before (g.H.FileStore.history c.args.file_store.now)) c.args.answer.now.status text v.items) (c.deref.ensures.value ∙ c.in_ok-text.ensures front kept) (h before is))
