use Rattle.std.proofs.Common.{rules}
use Rattle.std.proofs.lemmas.List.Sorted.{answers_always}
use Rattle.baf_auditor.proofs.EntryLemmas.{found_at, missed_at, searchable}
use Rattle.baf_auditor.proofs.entries.value_of.Goals as goal

pub returns-in-Ok : goal.returns-in-Ok
returns-in-Ok g c =
    found_at c.args.entries.now c.args.code c.in-Ok.place c.index-entries-place.result c.requires c.in-Ok.ensures.bound
    (c.in-Ok.ensures.position (λ e. e.0) (answers_always _ _ _ (λ f a r f' k. search rules)) c.index-entries-place.result)

pub returns-in-Err : goal.returns-in-Err
returns-in-Err g c =
    missed_at c.args.entries.now c.args.code c.in-Err.field-0 c.requires
    (c.in-Err.ensures.position (λ e. e.0) (answers_always _ _ _ (λ f a r f' k. search rules)) (searchable c.args.entries.now c.args.code c.requires))
