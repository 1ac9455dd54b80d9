use Rattle.std.proofs.Common.{◌≡◌, ℕ, ◌+◌, ◌-◌, length}
use Rattle.grouping_laws.specs.Problem.{Problem}
use Rattle.search_groups.specs.PartLists.{AreListsOf}
use Rattle.search_groups.proofs.part_lists.PartLists.make_bucket.Given as goal

abbrev pub invariant-loop-alloc : goal.invariant-loop-alloc
invariant-loop-alloc g l = record {
  lists : (p : Problem) (n : ℕ) → AreListsOf g.C.CountySet.test p n l.fn.self → AreListsOf g.C.CountySet.test p n l.self;
  same : l.self.lists ≡ l.fn.self.lists;
}

abbrev pub decreases-loop-alloc : goal.decreases-loop-alloc
decreases-loop-alloc g l = l.at + 1 - length l.self.buckets.items
