use Rattle.std.proofs.Common.{◌≡◌, ◌≤◌, ◌*◌, ℕ, List, drop}
use Rattle.std.specs.Option.{unwrap_or}
use Rattle.std.specs.Ordering.{nat_cmp}
use Rattle.std.specs.Cmp.Lexicographic.{slice_cmp}
use Rattle.std.specs.BTreeMap.{get}
use Rattle.baf_auditor.specs.Districts.{people_after, district_people}
use Rattle.baf_auditor.proofs.sizes.people_by_label.Given as goal

abbrev pub invariant-loop-block : goal.invariant-loop-block
invariant-loop-block l = record {
  people : (label : List ℕ) → people_after label (get (slice_cmp nat_cmp) l.sums label) (drop l.block-index l.given) ≡ district_people l.given label;
  few : (label : List ℕ) → unwrap_or (get (slice_cmp nat_cmp) l.sums label) 0 ≤ 4294967296 * l.block-index;
}
