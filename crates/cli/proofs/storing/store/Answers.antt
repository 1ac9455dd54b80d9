use Rattle.std.proofs.Common.{◌∷◌, [], Some, inl, inr, refl, ap}
use Rattle.cli_answers.specs.Answer.{Answered}
use Rattle.cli_answers.specs.Refusals.{file_store_answer}
use Rattle.cli_answers.specs.declared.answer.Refusal.{Refusal}
use Rattle.cli_answers.specs.declared.answer.Refusal.TheVariants.{Shown, Memory}
use Rattle.cli_answers.specs.Answers.{RefusalShows}
use Rattle.std.specs.Prelude.{Err}
use Rattle.run_laws.specs.Storing.{IsAnsweredBy}
use Rattle.run_laws.proofs.StoreLemmas.{none_stored}
use Rattle.cli.specs.Ends.{refusal_by}
use Rattle.cli.proofs.storing.store.Goals as goal

pub returns-in-Ok : goal.returns-in-Ok
returns-in-Ok g c = (
  record { name = c.args.name.now; bytes = c.args.bytes.now } ∷ [],
  record { contents = c.in-Ok.ensures.put; list = c.in-Ok.ensures.listed },
  inr (g.H.FileStore.history c.store.new.self, [], c.in-Ok.ensures.logged, refl, (refl, refl, refl)),
)

-- what is refused with this answer has it, or memory was refused
answered : (a : Answered) (refusal : Refusal) → RefusalShows a refusal → IsAnsweredBy (refusal_by (Err refusal)) a
answered a (Shown s) h = inl (ap (λ (b : Answered). Some b) h)
answered a Memory h = inr refl

pub returns-in-Err : goal.returns-in-Err
returns-in-Err g c = (
  [],
  none_stored (g.H.FileStore.contents c.args.file_store.now) (g.H.FileStore.contents c.store.new.self) (g.H.FileStore.stored c.args.file_store.now) (g.H.FileStore.stored c.store.new.self) c.in-Err.ensures.same c.in-Err.ensures.kept,
  inl (record {
    fault = c.in-Err.fault;
    is = c.in-Err.ensures.answer;
    logged = c.in-Err.ensures.logged;
    none_stored = refl;
    answer = answered (file_store_answer c.args.name.now c.in-Err.fault) c.refuse_store.result c.refuse_store.ensures;
  }),
)
