use Rattle.std.proofs.Common.{◌≡◌, rules}
use Rattle.std.proofs.lemmas.List.Elements.{same_from_all_zip}
use Rattle.county_problem.proofs.problem.Problem.copy.Goals as goal

pub invariant_of-result : goal.invariant_of-result
invariant_of-result c =
    let same : c.in_ok-clone.field-0.items ≡ c.self.inside.counties.items = same_from_all_zip _ _ _ c.in_ok-clone.ensures.cases.0 (λ x y e. search rules) in
    rw (same, c.in_ok-copy_sets.ensures, c.deref.ensures.value) c.self.invariant

pub returns : goal.returns
returns c =
    let same : c.in_ok-clone.field-0.items ≡ c.self.inside.counties.items = same_from_all_zip _ _ _ c.in_ok-clone.ensures.cases.0 (λ x y e. search rules) in
    let pairs : c.in_ok-clone-2.field-0.items ≡ c.self.inside.pairs.items = same_from_all_zip _ _ _ c.in_ok-clone-2.ensures.cases.0 (λ x y e. search rules) in
    rw (same, c.in_ok-copy_sets.ensures, c.deref.ensures.value, pairs) c.self.view_is
