use Rattle.std.proofs.Common.{◌≡◌, sym, ap, map, length, arith}
use Rattle.std.specs.Vec.{vec_items}
use Rattle.std.proofs.lemmas.List.{length-map, length-take-le}
use Rattle.certificate_data.specs.RoundValue.{target_of}
use Rattle.certificate_data.specs.TreeValue.{allowance_of}
use Rattle.search_groups.specs.Positions.{search_problem, search_round, search_state}
use Rattle.bound_proofs.proofs.CountSteps.{first_lists}
use Rattle.bound_proofs.proofs.bound.bounding_lines.Goals as goal

pub returns-in_ok-count_lines-in-Some-2 : goal.returns-in_ok-count_lines-in-Some-2
returns-in_ok-count_lines-in-Some-2 g c =
    let test = g.C.CountySet.test in
    let p = search_problem c.args.input.now in
    let order = c.args.input.now.graph.now.ordered.now.order in
    let s = search_state c.args.input.now test c.args.state.now in
    let lists = c.args.lists.now in
    let lines = c.in_ok-count_lines-in-Some-2.field-0.items in
    let found = rw c.in-Some-2.is at c.in_ok-count.ensures in
    let first = first_lists vec_items test order p (search_round c.args.input.now) s 1 lists c.from.result c.requires.each in
    let number : length (map allowance_of lines) ≡ c.in-Some-2.count = omega (arith, length-map lines allowance_of, c.in_ok-count_lines-in-Some-2.ensures.count, length-take-le c.from.result lists (omega (arith, c.from.ensures, found.0)), c.from.ensures) in
    (c.in-Some.target.groups.items, ap target_of c.in-Some.is, found.1 (map allowance_of lines) number (c.in_ok-count_lines-in-Some-2.ensures.lines (search_round c.args.input.now) s (sym c.requires.at.order) first))
