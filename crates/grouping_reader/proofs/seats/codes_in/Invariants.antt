use Rattle.std.proofs.Common.{◌≡◌, length, drop}
use Rattle.field_lines.specs.Fields.{fields_of}
use Rattle.grouping_reader.specs.SeatLine.{codes_on}
use Rattle.grouping_reader.proofs.CodeLemmas.{collect_codes}
use Rattle.grouping_reader.proofs.seats.codes_in.Given as goal

abbrev pub invariant-loop-field : goal.invariant-loop-field
invariant-loop-field l = collect_codes l.codes.items l.fields ≡ codes_on (drop 1 (fields_of 124 l.fn.line))

abbrev pub decreases-loop-field : goal.decreases-loop-field
decreases-loop-field l = length l.fields
