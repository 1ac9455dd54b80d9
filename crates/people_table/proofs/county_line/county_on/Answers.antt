use Rattle.std.proofs.Common.{◌≡◌, ◌≤◌, Some, length, ap, arith}
use Rattle.std.specs.Option.{option_map}
use Rattle.people_table.specs.QuotedFields.{quoted_fields}
use Rattle.people_table.specs.CutFields.{all_fields}
use Rattle.people_table.proofs.LineLemmas.{too_many}
use Rattle.people_table.proofs.county_line.county_on.Goals as goal

pub returns-in-Ok-Some : goal.returns-in-Ok-Some
returns-in-Ok-Some c = λ refused.
    let fields = c.in-Ok-Some.fields.items in
    let is : Some fields ≡ option_map all_fields (quoted_fields c.args.delimiter c.args.line.now) = rw c.in-Ok-Some.field-0-is at c.in-Ok-Some.ensures in
    let long : 4 ≤ length fields = omega (arith, c.in-len4-up.len_at_least, ap length c.as_slice.ensures.value) in
    too_many c.args.delimiter c.args.line.now fields is long
