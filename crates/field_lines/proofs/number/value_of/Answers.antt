use Rattle.std.proofs.Common.{◌<◌, arith}
use Rattle.std.specs.Str.Parse.{digits_value}
use Rattle.field_lines.proofs.NumberLemmas.{so_far-le}
use Rattle.std.proofs.lemmas.Bool.Decides.{nat_tests}
use Rattle.field_lines.proofs.number.value_of.Goals as goal

pub returns-then-value-greatest : goal.returns-then-value-greatest
returns-then-value-greatest c =
    let le = so_far-le c.loop-digit.value c.args.digits.now c.loop-digit.digit-index (omega arith) c.loop-digit.invariant.digits in
    let big : c.args.greatest < digits_value 10 c.args.digits.now = omega arith in
    grind (arith, nat_tests)
