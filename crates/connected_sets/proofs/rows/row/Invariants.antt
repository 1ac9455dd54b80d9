use Rattle.std.proofs.Common.{◌≡◌, ℕ, ◌&&◌, nat_lt}
use Rattle.connected_sets.specs.Graphs.{problem_at}
use Rattle.connected_sets.proofs.rows.row.Given as goal

abbrev pub invariant-loop-other : goal.invariant-loop-other
invariant-loop-other g l = (x : ℕ) → g.C.CountySet.test l.near x ≡ (nat_lt x l.other && (problem_at l.ordered).adjacent l.place x)
