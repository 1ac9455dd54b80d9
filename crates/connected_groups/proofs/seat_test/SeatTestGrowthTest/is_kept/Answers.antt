use Rattle.std.proofs.Common.{sym, ◌∙◌, length, arith}
use Rattle.place_sets.proofs.PlaceSums.{total_all}
use Rattle.connected_groups.specs.Search.{problem_at}
use Rattle.connected_groups.proofs.Passing.{kept_by_people}
use Rattle.connected_groups.proofs.seat_test.SeatTestGrowthTest.is_kept.Goals as goal

pub suits-requires : goal.suits-requires
suits-requires g c =
    let all = total_all (problem_at c.args.input.now.graph.now.ordered.now).people (length c.args.input.now.graph.now.ordered.now.order) (g.C.CountySet.test c.args.growth.now.set) in
    omega (arith, all, c.requires.growth.people, c.requires.graph.people)

pub returns : goal.returns
returns g c =
    let test = g.C.CountySet.test in
    let p = problem_at c.args.input.now.graph.now.ordered.now in
    let n = length c.args.input.now.graph.now.ordered.now.order in
    let growth = c.args.growth.now in
    record { kept = λ keep d. kept_by_people p n keep (test growth.set) growth.people d c.requires.growth.people ∙ sym c.suits.ensures }
