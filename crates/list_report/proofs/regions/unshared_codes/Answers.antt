use Rattle.std.proofs.Common.{◌≡◌, ◌∙◌, ◌+◌, ◌++◌, ◌∷◌, [], ℕ, true, false, not, List, drop, filter, rules}
use Rattle.std.specs.List.{list_any}
use Rattle.grouping_laws.specs.Sets.{contains}
use Rattle.county_codes.specs.Counties.{codes_of}
use Rattle.county_codes.specs.declared.county.County.{County}
use Rattle.list_report.proofs.Loops.{read, more, passed, keeps, drops}
use Rattle.list_report.proofs.regions.unshared_codes.Goals as goal
use Rattle.list_report.proofs.regions.unshared_codes.Goals.{then-not-is_taken+in_ok-push, else-not-is_taken}

pub loop-county-preserved : goal.loop-county-preserved
loop-county-preserved c =
    let q = λ (x : ℕ). not (list_any (λ (s : List ℕ). contains s x) c.args.shared.now) in
    let F = λ (l : List County). filter q (codes_of l) in
    let k = c.county-item.result in
    let now = c.loop-county.unshared.items in
    let ks = drop (c.loop-county.county-index + 1) c.args.counties.now in
    let left = read F c.args.counties.now c.loop-county.county-index k c.loop-county-test.true c.county-item.is in
    elim c.if-not-is_taken.branch [
      | then-not-is_taken+in_ok-push w ↦
          let passes : q k.code ≡ true = search rules in
          let new : c.if-not-is_taken.unshared.items ≡ now ++ k.code ∷ [] = search rules in
          more now (k.code ∷ []) (F ks) new (left ∙ keeps q k.code (codes_of ks) passes) c.loop-county.invariant
      | else-not-is_taken w ↦
          let fails : q k.code ≡ false = search rules in
          let new : c.if-not-is_taken.unshared.items ≡ now = search rules in
          passed now new (left ∙ drops q k.code (codes_of ks) fails) c.loop-county.invariant
    ]
