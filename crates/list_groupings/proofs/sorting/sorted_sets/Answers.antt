use Rattle.std.proofs.Common.{◌≡◌, ℕ, List, rules}
use Rattle.std.specs.Ordering.{is_lt}
use Rattle.std.proofs.lemmas.Cmp.{nat_list_cmp_total}
use Rattle.std.proofs.lemmas.Fn.{always_returns_same}
use Rattle.std.proofs.lemmas.List.Sorted.{ranks_by}
use Rattle.connected_laws.specs.Growing.{sort_key}
use Rattle.list_groupings.specs.Keys.{set_order}
use Rattle.list_groupings.proofs.sorting.sorted_sets.Goals as goal

pub returns-clause-sorted : goal.returns-clause-sorted
returns-clause-sorted c =
    let less = λ (a b : List ℕ). is_lt (set_order a b) in
    c.in_ok-sort_by.ensures.sorted less (ranks_by nat_list_cmp_total sort_key) (always_returns_same _ (λ a r. is_lt r ≡ less a.0.now a.1.0.now) _ (λ a r f' k. search rules))
