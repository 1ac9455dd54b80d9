use Rattle.std.proofs.Common.{◌≡◌, ℕ, ◌<◌, length, get_or}
use Rattle.connected_sets.specs.Graphs.{problem_at}
use Rattle.connected_sets.proofs.rows.neighbour_rows.Given as goal

abbrev pub invariant-loop-place : goal.invariant-loop-place
invariant-loop-place g l =
    (length l.near.items ≡ l.place)
    × ((x y : ℕ) (d : g.row.C.Denot) → x < l.place → y < length l.ordered.order → g.C.CountySet.test (get_or l.near.items x d) y ≡ (problem_at l.ordered).adjacent x y)
