-- The sums of the last events of a file store.
use Rattle.std.proofs.Common.{◌≡◌, ◌∙◌, ℕ, ◌+◌, ◌-◌, ◌^◌, List, [], ◌∷◌, ◌++◌, Option, Some, None, Vec, Global, IfSome, length, min, sym, ap, ap₂, map, append_assoc, arith, length-append}
use Rattle.std.specs.Option.{IsSomeAnd}
use Rattle.std.proofs.lemmas.List.{append-nil, map-append}
use Rattle.cli_file_stores.specs.declared.sums.EventSum.{EventSum}
use Rattle.cli_file_stores.specs.History.{FileStoreEvent}
use Rattle.cli_file_stores.specs.Sums.{AreOfLast, SumOfEvent, sum_of_event, sum_value}

-- no sums are those of no events
pub none_kept : (events : List FileStoreEvent) (sums : List EventSum) → sums ≡ [] → AreOfLast events sums
none_kept events sums none = record {
  earlier = events;
  recent = [];
  all = sym (append-nil events);
  are = ap (map sum_value) none;
}

-- one more event, and its sum
pub one_more : (events later : List FileStoreEvent) (sums more : List EventSum) (event : FileStoreEvent) (sum : SumOfEvent)
    → AreOfLast events sums → later ≡ events ++ event ∷ [] → map sum_value more ≡ map sum_value sums ++ sum ∷ [] → sum ≡ sum_of_event event → AreOfLast later more
one_more events later sums more event sum are is_later is_more is = record {
  earlier = are.earlier;
  recent = are.recent ++ event ∷ [];
  all = is_later ∙ ap (λ (l : List FileStoreEvent). l ++ event ∷ []) are.all ∙ append_assoc are.earlier are.recent (event ∷ []);
  are = is_more ∙ ap₂ (λ (l r : List SumOfEvent). l ++ r) are.are (ap (λ (s : SumOfEvent). s ∷ []) is) ∙ sym (map-append sum_of_event are.recent (event ∷ []));
}

-- one more event where sums are kept, and its sum
pub kept_on : (sums result : Option (Vec EventSum Global)) (events later : List FileStoreEvent) (event : FileStoreEvent) (sum : SumOfEvent)
    → IfSome sums (λ v. AreOfLast events v.items) → later ≡ events ++ event ∷ [] → sum ≡ sum_of_event event
    → IfSome result (λ v. IsSomeAnd sums (λ before. map sum_value v.items ≡ map sum_value before.items ++ sum ∷ [])) → IfSome result (λ v. AreOfLast later v.items)
kept_on sums None events later event sum are is_later is more = tt
kept_on None (Some v) events later event sum are is_later is more = absurd more
kept_on (Some before) (Some v) events later event sum are is_later is more = one_more events later before.items v.items event sum are is_later more is

-- one more of a count that stays at its last value
pub counted_on : {X : Type 0} (events later : List X) (event : X) (count next : ℕ) → count ≡ min (length events) (2 ^ 64 - 1) → next ≡ min (count + 1) (2 ^ 64 - 1)
    → later ≡ events ++ event ∷ [] → next ≡ min (length later) (2 ^ 64 - 1)
counted_on events later event count next is is_next is_later =
    let long : length later ≡ length events + 1 = ap length is_later ∙ length-append events (event ∷ []) in
    omega (arith, is, is_next, long)
