use Rattle.std.proofs.Common.{◌≡◌, ℕ, ◌++◌, take}
use Rattle.connected_laws.specs.Listing.{AreBelow, lists_of}
use Rattle.search_groups.proofs.part_lists.put_copies.Given as goal

abbrev pub invariant-loop-set : goal.invariant-loop-set
invariant-loop-set g l = record {
  lists : (n : ℕ) → lists_of n g.C.CountySet.test l.groups.items ≡ lists_of n g.C.CountySet.test l.fn.groups.items ++ lists_of n g.C.CountySet.test (take l.set-index l.sets);
  below : (n : ℕ) → AreBelow n g.C.CountySet.test l.sets → AreBelow n g.C.CountySet.test l.fn.groups.items → AreBelow n g.C.CountySet.test l.groups.items;
}
