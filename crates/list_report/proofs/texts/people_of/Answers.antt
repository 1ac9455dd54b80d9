use Rattle.std.proofs.Common.{◌≡◌, ◌∙◌, ◌+◌, true, List, drop, filter, rules, arith}
use Rattle.county_codes.specs.Counties.{people_in}
use Rattle.grouping_laws.specs.Sets.{contains}
use Rattle.county_codes.specs.declared.county.County.{County}
use Rattle.list_report.proofs.Sizes.{people_kept, people_read}
use Rattle.list_report.proofs.Loops.{read}
use Rattle.list_report.proofs.texts.people_of.Goals as goal

pub overflow_add-people : goal.overflow_add-people
overflow_add-people c =
    let q = λ (k : County). contains c.args.set.now k.code in
    let ks = c.counties-counties.result.now in
    let passes : q c.county-item.result ≡ true = search rules in
    let rest = drop (c.loop-county.county-index + 1) ks in
    let left = read (λ (l : List County). people_in (filter q l)) ks c.loop-county.county-index c.county-item.result c.loop-county-test.true c.county-item.is ∙ people_read q c.county-item.result rest passes in
    let few = people_kept q ks in
    omega (arith, left, few, c.loop-county.invariant, c.counties-counties.ensures.fits, c.from-people.ensures)

pub returns-clause-bound : goal.returns-clause-bound
returns-clause-bound c =
    let q = λ (k : County). contains c.args.set.now k.code in
    let ks = c.counties-counties.result.now in
    omega (arith, c.loop-county.invariant, people_kept q ks, c.counties-counties.ensures.people)
