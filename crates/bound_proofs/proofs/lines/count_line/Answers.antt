use Rattle.std.proofs.Common.{◌∙◌, ◌≤◌, ap, arith, length}
use Rattle.std.proofs.lemmas.List.Kept.{AllPairs-from_increasing}
use Rattle.county_codes.specs.Counties.{codes_of}
use Rattle.county_problem.specs.ProblemValue.{ProblemValue, problem_of}
use Rattle.bound_proofs.specs.CountLeaves.{has_county}
use Rattle.bound_proofs.proofs.CountedPlaces.{counted_tests}
use Rattle.bound_proofs.proofs.CountSteps.{made_of_weights}
use Rattle.bound_proofs.proofs.lines.count_line.Goals as goal

pub returns : goal.returns
returns g c = λ round s e are.
    let test = g.C.CountySet.test in
    let p = problem_of c.args.ordered.now.problem in
    let order = c.args.ordered.now.order in
    let counties = c.counties-counties.result.now in
    let over : length counties ≤ c.loop-county.county-index = omega (arith, c.loop-county-test.false) in
    let tests = counted_tests g.row.C.Denot test order p c.places-places.ensures.order round e s c.args.size c.args.groups.now are c.in_ok-counted.counted c.in_ok-counted.ensures in
    made_of_weights round.format p s c.args.size (has_county order test c.in_ok-counted.counted) tests counties (ap codes_of (c.counties-counties.ensures.value ∙ ap (λ (v : ProblemValue). v.counties) c.problem.ensures.value)) (AllPairs-from_increasing (codes_of counties) c.counties-counties.ensures.by_code) c.loop-county.county-index over c.loop-county.weights.items c.new.result c.loop-county.invariant c.new.ensures c.from.result c.from.ensures
