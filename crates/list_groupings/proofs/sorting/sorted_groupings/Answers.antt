use Rattle.std.proofs.Common.{◌≡◌, rules}
use Rattle.std.specs.Cmp.Lexicographic.{slice_cmp}
use Rattle.std.specs.Ordering.{is_lt}
use Rattle.std.proofs.lemmas.Cmp.{nat_list_cmp_total, lists_total, on_total}
use Rattle.std.proofs.lemmas.Fn.{always_returns_same}
use Rattle.std.proofs.lemmas.List.Sorted.{ranks_by}
use Rattle.county_codes.specs.declared.group.Grouping.{Grouping}
use Rattle.grouping_laws.specs.Grouping.{sets_of}
use Rattle.connected_laws.specs.Growing.{sort_key}
use Rattle.list_groupings.specs.Keys.{set_order}
use Rattle.list_groupings.proofs.sorting.sorted_groupings.Goals as goal

pub returns-clause-sorted : goal.returns-clause-sorted
returns-clause-sorted c =
    let less = λ (a b : Grouping). is_lt (slice_cmp set_order (sets_of a.groups.items) (sets_of b.groups.items)) in
    c.in_ok-sort_by.ensures.sorted less (ranks_by (lists_total (on_total sort_key nat_list_cmp_total)) (λ (g : Grouping). sets_of g.groups.items)) (always_returns_same _ (λ a r. is_lt r ≡ less a.0.now a.1.0.now) _ (λ a r f' k. search rules))
