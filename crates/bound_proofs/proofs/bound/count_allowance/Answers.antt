use Rattle.std.proofs.Common.{◌∙◌, sym, length}
use Rattle.place_sets.specs.PlaceSets.{places_of}
use Rattle.certificate_laws.specs.BoundLines.{room_at}
use Rattle.search_groups.specs.Positions.{search_problem, search_round, search_state}
use Rattle.bound_proofs.specs.CountLeaves.{has_county}
use Rattle.bound_proofs.proofs.CountWeights.{count_allowed}
use Rattle.bound_proofs.proofs.CountedPlaces.{region_of_set, all_below, counted_tests}
use Rattle.bound_proofs.proofs.CountSteps.{lesser_share}
use Rattle.bound_proofs.proofs.bound.count_allowance.Goals as goal

pub returns-clause-line : goal.returns-clause-line
returns-clause-line g c = λ line is.
    let test = g.C.CountySet.test in
    let p = search_problem c.args.input.now in
    let order = c.args.input.now.graph.now.ordered.now.order in
    let s = search_state c.args.input.now test c.args.state.now in
    let round = search_round c.args.input.now in
    let whole = c.places-places.ensures.order in
    let counted = c.in_ok-counted.counted in
    let below = all_below g.row.C.Denot test order p whole round (sym c.requires.at.order) s c.args.size c.args.groups.now c.requires.groups counted c.in_ok-counted.ensures in
    let tests = counted_tests g.row.C.Denot test order p whole round (sym c.requires.at.order) s c.args.size c.args.groups.now c.requires.groups counted c.in_ok-counted.ensures in
    let at = region_of_set g.row.C.Denot test order p whole counted below in
    count_allowed round.format p s c.args.size line is order (has_county order test counted) (test counted) c.problem-problem.ensures.law whole at tests c.args.used
    ∙ lesser_share c.in_ok-room.room (room_at p s c.args.size c.args.used) c.args.size c.from.result c.from-2.result c.size.result (length (places_of (length order) (test counted))) c.min.result c.in_ok-room.ensures.value c.from.ensures c.from-2.ensures (c.size.ensures.count (length order) below) c.min.ensures
