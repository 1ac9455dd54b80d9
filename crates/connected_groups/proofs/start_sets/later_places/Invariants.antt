use Rattle.std.proofs.Common.{◌≡◌, ℕ}
use Rattle.connected_groups.specs.Search.{later}
use Rattle.connected_groups.proofs.start_sets.later_places.Given as goal

abbrev pub invariant-loop-other : goal.invariant-loop-other
invariant-loop-other g l = (x : ℕ) → g.C.CountySet.test l.free x ≡ later l.other l.place x
