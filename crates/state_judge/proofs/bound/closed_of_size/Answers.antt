use Rattle.std.proofs.Common.{◌≡◌, ◌≤◌, ◌==◌, length, sym, ◌∙◌, arith}
use Rattle.std.proofs.lemmas.List.{at_drop_all}
use Rattle.place_sets.specs.PlaceSets.{places_of}
use Rattle.grouping_laws.specs.Sets.{indicator, sum_by}
use Rattle.state_judge.proofs.Allowances.{closed_counts}
use Rattle.state_judge.proofs.bound.closed_of_size.Goals as goal

pub returns-clause-value : goal.returns-clause-value
returns-clause-value g c =
    let test = g.C.CountySet.test in
    let order = c.args.ordered.now.order in
    let items = c.args.state.now.closed.items in
    let f = λ (z : g.row.C.Denot). indicator (length (places_of (length order) (test z)) == c.args.size) in
    let over : length items ≤ c.loop-group.group-index = omega (arith, c.loop-group-test.false) in
    let whole : c.loop-group.count ≡ sum_by f items = omega (arith, c.loop-group.invariant.same, at_drop_all (sum_by f) items c.loop-group.group-index over) in
    whole ∙ sym (closed_counts g.row.C.Denot test order c.args.state.now c.args.size c.requires.placed.places)
