use Rattle.std.proofs.Common.{not, arith}
use Rattle.grouping_laws.specs.Sets.{contains}
use Rattle.county_codes.specs.declared.county.County.{County}
use Rattle.county_problem.proofs.BuildLemmas.{people_left}
use Rattle.county_problem.proofs.building.with_totals.Goals as goal

pub invariant_of-result : goal.invariant_of-result
invariant_of-result c =
    let p = λ (x : County). not (contains c.args.taken.now x.code) in
    let fewer = people_left p c.args.counties.now c.in_ok-counties.counties.items c.in_ok-counties.ensures.same in
    let totals = c.requires in (
      totals.people.1.0,
      totals.people.1.1,
      totals.some,
      totals.most,
      omega (arith, fewer, totals.people.0),
      c.in_ok-counties.ensures.by_code,
      omega (arith, c.in_ok-counties.ensures.few, totals.few),
      rw c.in_ok-copy_sets.ensures totals.seats,
      rw c.in_ok-copy_sets.ensures totals.sets,
      totals.tolerance,
    )
