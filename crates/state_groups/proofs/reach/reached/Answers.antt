use Rattle.std.proofs.Common.{length, arith}
use Rattle.county_problem.specs.OrderedValue.{problem_at}
use Rattle.state_groups.proofs.Moves.{first_reached, next_reached, closed_reached, all_reached, none_next}
use Rattle.state_groups.proofs.reach.reached.Goals as goal

pub loop-moved-init : goal.loop-moved-init
loop-moved-init g c =
    let test = g.C.CountySet.test in
    let growth = c.args.growth.now in
    first_reached (problem_at c.args.input.now.graph.now.ordered.now) (length c.args.input.now.graph.now.ordered.now.order) c.args.input.now.limit (test growth.set) (test growth.free) c.requires.growth
    (test c.in_ok-reach.reach) (test c.in_ok-edge.edge) (test growth.front) c.requires.front c.in_ok-reach.ensures.places c.in_ok-edge.ensures.places

pub loop-moved-preserved : goal.loop-moved-preserved
loop-moved-preserved g c =
    let test = g.C.CountySet.test in
    let growth = c.args.growth.now in
    next_reached (problem_at c.args.input.now.graph.now.ordered.now) (length c.args.input.now.graph.now.ordered.now.order) c.args.input.now.limit (test growth.set) (test growth.free) c.requires.growth
    (test c.loop-moved.reach) (test c.loop-moved.edge) (test c.in_ok-edge-2.edge) c.loop-moved.moved c.loop-moved.invariant c.in_ok-edge-2.ensures.all (test c.in_ok-reach-2.reach) c.in_ok-edge-2.ensures.free c.in_ok-reach-2.ensures.places

pub returns-then-is_none-clause-all : goal.returns-then-is_none-clause-all
returns-then-is_none-clause-all g c =
    let test = g.C.CountySet.test in
    let growth = c.args.growth.now in
    closed_reached (problem_at c.args.input.now.graph.now.ordered.now) (length c.args.input.now.graph.now.ordered.now.order) c.args.input.now.limit (test growth.set) (test growth.free) c.requires.growth
    (test c.loop-moved.reach) (test c.loop-moved.edge) (test c.in_ok-edge-2.edge) c.loop-moved.moved c.loop-moved.invariant c.in_ok-edge-2.ensures.all
    (none_next (test c.in_ok-edge-2.edge) c.next.result c.is_none.result c.is_none.ensures c.if-is_none.true c.next.ensures.least)

pub returns-clause-all : goal.returns-clause-all
returns-clause-all g c =
    let test = g.C.CountySet.test in
    let growth = c.args.growth.now in
    all_reached (problem_at c.args.input.now.graph.now.ordered.now) (length c.args.input.now.graph.now.ordered.now.order) c.args.input.now.limit (test growth.set) (test growth.free) c.requires.growth
    (test c.loop-moved.reach) (test c.loop-moved.edge) c.loop-moved.moved c.loop-moved.invariant (omega (arith, c.requires.moves, c.loop-moved-test.false))
