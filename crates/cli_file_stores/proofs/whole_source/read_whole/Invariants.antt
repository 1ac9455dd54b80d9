use Rattle.std.proofs.Common.{◌≡◌, ◌-◌, ◌≤◌, false, vec_len}
use Rattle.std.specs.Io.KnownBytes.{Consumes}
use Rattle.cli_file_stores.proofs.whole_source.read_whole.Given as goal

-- what was pulled is what the content lost
abbrev pub invariant-loop-count : goal.invariant-loop-count
invariant-loop-count g l = record {
  pulled : Consumes (g.S.Source.content l.fn.source) (g.S.Source.content l.source) l.bytes.items;
  within : vec_len l.bytes ≤ l.limit;
  sound : g.S.Source.is_failed l.source ≡ false;
}

abbrev pub decreases-loop-count : goal.decreases-loop-count
decreases-loop-count g l = l.limit - vec_len l.bytes
