use Rattle.std.proofs.Common.{◌≡◌, ℕ, ◌<◌, true, rules}
use Rattle.std.specs.Cmp.Lexicographic.{slice_cmp}
use Rattle.std.specs.Ordering.{nat_cmp, is_lt}
use Rattle.std.specs.List.Sorted.{IsSortedBy}
use Rattle.std.proofs.lemmas.Cmp.{nat_list_cmp_total}
use Rattle.std.proofs.lemmas.Fn.{always_returns_same}
use Rattle.std.proofs.lemmas.List.Sorted.{ranks_by}
use Rattle.place_sets.specs.PlaceSets.{sized}
use Rattle.std.proofs.lemmas.List.Sorted.{All-permutation}
use Rattle.place_sets.proofs.SetLists.{lists_sorted}
use Rattle.place_sets.proofs.set_lists.sorted.Goals as goal

pub returns-clause-sorted : goal.returns-clause-sorted
returns-clause-sorted g c =
    let test = g.C.CountySet.test in
    let m = g.C.CountySet.PLACES in
    let old = c.args.sets.items in
    let new = c.sort_by.new.self.items in
    let less = λ (a b : g.row.C.Denot). is_lt (slice_cmp nat_cmp (sized m (test a)) (sized m (test b))) in
    let up : IsSortedBy less new = c.in_ok-sort_by.ensures.sorted less (ranks_by nat_list_cmp_total (λ (s : g.row.C.Denot). sized m (test s))) (always_returns_same _ (λ a r. is_lt r ≡ less a.0.now a.1.0.now) _ (λ a r f' k. search rules)) in
    λ n below. lists_sorted g.row.C.Denot n m test new (All-permutation (λ s. (x : ℕ) → test s x ≡ true → x < n) old new c.in_ok-sort_by.ensures.permutation below) g.met.C.CountySet.bounded up
