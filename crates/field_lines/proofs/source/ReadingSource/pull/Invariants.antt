use Rattle.std.proofs.Common.{◌≡◌}
use Rattle.std.specs.Io.KnownBytes.{Keeps}
use Rattle.field_lines.proofs.source.ReadingSource.pull.Given as goal

-- reads that were interrupted took nothing, and gave nothing
abbrev pub invariant-loop : goal.invariant-loop
invariant-loop g l = record {
  kept : Keeps (g.R.Read.remaining l.fn.self.reader) (g.R.Read.remaining l.self.reader);
  same : l.self.log.bytes ≡ l.fn.self.log.bytes;
  still : l.self.ended ≡ l.fn.self.ended;
}
