use Rattle.std.proofs.Common.{◌≡◌, ◌<◌, ◌+◌, ◌++◌, drop, length}
use Rattle.std.specs.Prelude.{IfSome}
use Rattle.std.specs.List.{filter_map}
use Rattle.baf_auditor.specs.Findings.{drawn_sets}
use Rattle.baf_auditor.specs.Listing.{entry_in, place_of}
use Rattle.baf_auditor.proofs.block_list.listed_blocks.Given as goal

abbrev pub invariant-loop-block : goal.invariant-loop-block
invariant-loop-block l = record {
  listed : l.listed.items ++ filter_map (entry_in (drawn_sets l.problem l.grouping.groups.items)) (drop l.block-index l.blocks) ≡ filter_map (entry_in (drawn_sets l.problem l.grouping.groups.items)) l.blocks;
  known : l.known.1 ≡ place_of (drawn_sets l.problem l.grouping.groups.items) l.known.0;
  bound : IfSome l.known.1 (λ place. place < length l.grouping.groups.items + 1000);
}
