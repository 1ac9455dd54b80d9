use Rattle.std.proofs.Common.{◌-◌, length}
use Rattle.county_problem.specs.OrderedValue.{problem_at}
use Rattle.state_groups.proofs.Moves.{IsReached}
use Rattle.state_groups.proofs.reach.reached.Given as goal

abbrev pub invariant-loop-moved : goal.invariant-loop-moved
invariant-loop-moved g l =
    IsReached (problem_at l.input.graph.now.ordered.now) (length l.input.graph.now.ordered.now.order) l.input.limit (g.C.CountySet.test l.growth.set) (g.C.CountySet.test l.growth.free) (g.C.CountySet.test l.reach) (g.C.CountySet.test l.edge) l.moved

abbrev pub decreases-loop-moved : goal.decreases-loop-moved
decreases-loop-moved g l = l.moves - l.moved
