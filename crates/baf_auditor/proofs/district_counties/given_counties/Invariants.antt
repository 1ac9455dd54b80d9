use Rattle.std.proofs.Common.{◌≡◌, ◌||◌, ℕ, List, drop, map}
use Rattle.std.specs.BTreeSet.{contains}
use Rattle.baf_auditor.specs.Giving.{by_label}
use Rattle.baf_auditor.specs.Districts.{has_county}
use Rattle.baf_auditor.proofs.district_counties.given_counties.Given as goal

abbrev pub invariant-loop-block : goal.invariant-loop-block
invariant-loop-block l = (key : List ℕ × ℕ) → (contains by_label l.found key || has_county (map (λ e. e.0) (drop l.block-index l.given)) key) ≡ has_county (map (λ e. e.0) l.given) key
