use Rattle.std.proofs.Common.{map}
use Rattle.certificate_data.specs.TreeValue.{allowance_of}
use Rattle.search_groups.specs.Positions.{search_problem, search_state}
use Rattle.search_ends.specs.EmptyLines.{AreEmptyThrough}
use Rattle.search_ends.proofs.empty_leaves.empty_lines.Given as goal

abbrev pub invariant-loop-below : goal.invariant-loop-below
invariant-loop-below g l = AreEmptyThrough (search_problem l.input) (search_state l.input g.C.CountySet.test l.state) l.below (map allowance_of l.lines.items)
