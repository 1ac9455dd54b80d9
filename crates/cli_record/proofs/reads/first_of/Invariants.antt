use Rattle.std.proofs.Common.{◌≡◌, drop, map}
use Rattle.std.specs.Prelude.{find}
use Rattle.cli_file_stores.specs.Sums.{sum_value}
use Rattle.cli_record.specs.RecordFiles.{is_of}
use Rattle.cli_record.proofs.reads.first_of.Given as goal

abbrev pub invariant-loop-sum : goal.invariant-loop-sum
invariant-loop-sum l = find (is_of l.kind l.name) (map sum_value (drop l.sum-index l.sums)) ≡ find (is_of l.kind l.name) (map sum_value l.sums)
