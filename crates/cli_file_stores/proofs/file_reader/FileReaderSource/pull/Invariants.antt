use Rattle.std.proofs.Common.{◌≡◌}
use Rattle.std.specs.Io.KnownBytes.{Keeps}
use Rattle.cli_file_stores.proofs.file_reader.FileReaderSource.pull.Given as goal

-- reads that were interrupted took nothing, and gave nothing
abbrev pub invariant-loop : goal.invariant-loop
invariant-loop g l = record {
  kept : Keeps (g.F.Read.remaining l.fn.self.file) (g.F.Read.remaining l.self.file);
  same : l.self.log ≡ l.fn.self.log;
  still : l.self.ended ≡ l.fn.self.ended;
}
