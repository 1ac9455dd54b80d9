use Rattle.std.proofs.Common.{◌≡◌, ◌≤◌, ◌<◌, ◌+◌, ℕ, List, drop, length, map}
use Rattle.std.specs.Prelude.{IfSome}
use Rattle.std.specs.List.{All}
use Rattle.std.specs.BTreeMap.{get, btree_map_len, keys}
use Rattle.baf_auditor.specs.Findings.{drawn_sets}
use Rattle.baf_auditor.specs.Listing.{place_of}
use Rattle.baf_auditor.specs.Giving.{by_label}
use Rattle.baf_auditor.specs.Districts.{stands_after, standing}
use Rattle.baf_auditor.proofs.district_sets.standing_places.Given as goal

abbrev pub invariant-loop-block : goal.invariant-loop-block
invariant-loop-block l = record {
  standing : (key : List ℕ × ℕ) → stands_after (drawn_sets l.problem l.grouping.groups.items) key (get by_label l.found key) (map (λ e. e.0) (drop l.block-index l.given)) ≡ standing (drawn_sets l.problem l.grouping.groups.items) (map (λ e. e.0) l.given) key;
  few : btree_map_len l.found ≤ l.block-index;
  known : l.known.1 ≡ place_of (drawn_sets l.problem l.grouping.groups.items) l.known.0;
  bound : IfSome l.known.1 (λ place. place < length l.grouping.groups.items + 1000);
  within : All (λ k. k.1 < length l.grouping.groups.items + 1000) (keys l.found);
}
