use Rattle.std.proofs.Common.{◌≡◌, ◌++◌, drop}
use Rattle.std.specs.List.{flat_map}
use Rattle.cli_record.specs.Record.{read_line}
use Rattle.cli_record.proofs.text.push_reads.Given as goal

abbrev pub invariant-loop-read : goal.invariant-loop-read
invariant-loop-read l = l.out.items ++ flat_map read_line (drop l.read-index l.reads) ≡ l.fn.out.items ++ flat_map read_line l.reads
