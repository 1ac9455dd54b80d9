use Rattle.std.proofs.Common.{◌≡◌, drop}
use Rattle.std.specs.Option.{option_map}
use Rattle.people_table.specs.QuotedFields.{fields_at, quoted_fields}
use Rattle.people_table.specs.CutFields.{all_fields, fields_behind}
use Rattle.people_table.proofs.fields.fields_of.Given as goal

abbrev pub invariant-loop-byte : goal.invariant-loop-byte
invariant-loop-byte l = fields_behind l.cut (fields_at l.delimiter l.cut.place (drop l.byte-index l.line)) ≡ option_map all_fields (quoted_fields l.delimiter l.line)
