use Rattle.std.proofs.Common.{◌≡◌, ◌++◌, drop, filter, map}
use Rattle.cli_file_stores.specs.declared.sums.EventKind.TheVariants.{Taken}
use Rattle.cli_file_stores.specs.Sums.{sum_value}
use Rattle.cli_record.specs.RunRecord.{stored_line_of}
use Rattle.cli_record.specs.RecordFiles.{files_stored, went, with_options}
use Rattle.cli_record.proofs.stores.with_options.Given as goal

abbrev pub invariant-loop-sum : goal.invariant-loop-sum
invariant-loop-sum l =
    map stored_line_of l.stored.items ++ with_options l.rest (filter (λ s. went Taken s.kind) (map sum_value (drop l.sum-index l.sums))) ≡ files_stored l.options (map sum_value l.sums)
