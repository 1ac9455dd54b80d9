use Rattle.std.proofs.Common.{not, rules, arith, subst, List}
use Rattle.std.proofs.lemmas.List.Sorted.{IsNonDecreasingBy-from_sort_by_key}
use Rattle.std.specs.List.Sorted.{IsPermutation}
use Rattle.grouping_laws.specs.Sets.{contains}
use Rattle.county_codes.specs.declared.county.County.{County}
use Rattle.county_problem.proofs.BuildLemmas.{left_rise, gathered, fewer_kept}
use Rattle.county_problem.proofs.building.counties_left.Goals as goal

pub returns-clause-same : goal.returns-clause-same
returns-clause-same c =
    let p = λ (x : County). not (contains c.args.taken.now x.code) in
    let whole = gathered p c.loop-county.left.items c.args.counties.now c.loop-county.county-index c.loop-county.invariant (omega arith) in
    subst (λ (l : List County). IsPermutation l c.sort_by_key.new.self.items) whole c.in_ok-sort_by_key.ensures.permutation

pub returns-clause-by_code : goal.returns-clause-by_code
returns-clause-by_code c =
    let p = λ (x : County). not (contains c.args.taken.now x.code) in
    let whole = gathered p c.loop-county.left.items c.args.counties.now c.loop-county.county-index c.loop-county.invariant (omega arith) in
    left_rise p c.args.counties.now c.sort_by_key.new.self.items c.requires
    (subst (λ (l : List County). IsPermutation l c.sort_by_key.new.self.items) whole c.in_ok-sort_by_key.ensures.permutation)
    (IsNonDecreasingBy-from_sort_by_key (λ x. x.code) _ c.in_ok-sort_by_key.ensures.sorted (λ a r q k. search rules))

pub returns-clause-few : goal.returns-clause-few
returns-clause-few c =
    let p = λ (x : County). not (contains c.args.taken.now x.code) in
    let whole = gathered p c.loop-county.left.items c.args.counties.now c.loop-county.county-index c.loop-county.invariant (omega arith) in
    fewer_kept p c.args.counties.now c.sort_by_key.new.self.items (subst (λ (l : List County). IsPermutation l c.sort_by_key.new.self.items) whole c.in_ok-sort_by_key.ensures.permutation)
