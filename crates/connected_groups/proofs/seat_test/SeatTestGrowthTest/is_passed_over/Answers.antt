use Rattle.std.proofs.Common.{sym, ◌∙◌, length, arith}
use Rattle.place_sets.proofs.PlaceSums.{total_all}
use Rattle.connected_groups.specs.Search.{problem_at}
use Rattle.connected_groups.proofs.Passing.{small_none}
use Rattle.connected_groups.proofs.seat_test.SeatTestGrowthTest.is_passed_over.Goals as goal

pub stays_small-requires-clause-bound : goal.stays_small-requires-clause-bound
stays_small-requires-clause-bound g c =
    let all = total_all (problem_at c.args.input.now.graph.now.ordered.now).people (length c.args.input.now.graph.now.ordered.now.order) (g.C.CountySet.test c.args.growth.now.set) in
    omega (arith, all, c.requires.growth.people, c.requires.graph.people, c.requires.graph.bound)

pub returns : goal.returns
returns g c =
    let test = g.C.CountySet.test in
    let p = problem_at c.args.input.now.graph.now.ordered.now in
    let n = length c.args.input.now.graph.now.ordered.now.order in
    let growth = c.args.growth.now in
    let it = c.args.self.now in
    record {
      passed = λ yes keep d.
          small_none p n c.args.input.now.limit it.most growth.people it.least keep (test growth.set) (test growth.free) c.requires.graph.rows.problem d c.requires.knows.1 c.requires.growth.people c.requires.knows.0 (sym c.stays_small.ensures ∙ yes);
    }
