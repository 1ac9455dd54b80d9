use Rattle.std.proofs.Common.{◌≡◌, ◌∙◌, ◌∷◌, [], ◌++◌, List, ℕ, Option, Vec, Global, IfSome, ap, map, subst, sym}
use Rattle.std.specs.Option.{IsSomeAnd}
use Rattle.cli_file_stores.specs.ByteSums.{SumValue, sum_of}
use Rattle.cli_file_stores.specs.declared.sums.EventSum.{EventSum}
use Rattle.cli_file_stores.specs.History.{is_taken}
use Rattle.cli_file_stores.specs.History.FileStoreEvent.{Stored}
use Rattle.cli_file_stores.specs.Sums.{SumOfEvent, sum_of_event, sum_value}
use Rattle.cli_file_stores.proofs.SumLemmas.{counted_on, kept_on}
use Rattle.cli_file_stores.proofs.sums.EventSums.note_store.Goals as goal

pub invariant_of-self-then-is_some-2 : goal.invariant_of-self-then-is_some-2
invariant_of-self-then-is_some-2 c =
    let events = c.self.inside.log.events in
    let event = Stored c.as_bytes.result.now c.args.bytes.now (is_taken c.args.answer.now) in
    let kept : SumOfEvent = record { kind = c.kind_of_store.result; name = c.args.name.now; sum = c.sum_of-sum.result } in
    let more = subst (λ (sums : Option (Vec EventSum Global)). IfSome c.with_sum_if_kept.result (λ v. IsSomeAnd sums (λ before. map sum_value v.items ≡ map sum_value before.items ++ kept ∷ [])))
    c.take.ensures.value c.with_sum_if_kept.ensures in (
      counted_on events c.note_store.new.self.events event c.self.inside.count c.saturating_add-self-inside.result c.self.invariant.0 c.saturating_add-self-inside.ensures c.note_store.ensures,
      kept_on c.self.inside.sums c.with_sum_if_kept.result events c.note_store.new.self.events event kept c.self.invariant.1 c.note_store.ensures
          (ap (λ (s : SumValue). record { kind = c.kind_of_store.result; name = c.args.name.now; sum = s }) c.sum_of-sum.ensures ∙ (c.kind_of_store.ensures c.args.name.now c.args.bytes.now ∙ ap (λ (n : List ℕ). sum_of_event (Stored n c.args.bytes.now (is_taken c.args.answer.now))) (sym c.as_bytes.ensures.value))) more,
    )
