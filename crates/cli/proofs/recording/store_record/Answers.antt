use Rattle.std.proofs.Common.{[], inl, refl, rules}
use Rattle.run_laws.proofs.StoreLemmas.{none_stored}
use Rattle.cli.proofs.recording.store_record.Goals as goal

pub returns-else-is_recorded : goal.returns-else-is_recorded
returns-else-is_recorded g c = λ before front is kept.
    let files = g.H.FileStore.contents c.args.file_store.now in
    let listed = g.H.FileStore.stored c.args.file_store.now in (
      [],
      none_stored files files listed listed refl refl,
      inl (search rules, record { still = refl; none = refl; answer = refl }),
    )
