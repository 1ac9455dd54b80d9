use Rattle.std.proofs.Common.{◌∙◌, ◌<◌, ◌≤◌, length, sym, arith}
use Rattle.std.proofs.lemmas.Bool.Decides.{nat_tests}
use Rattle.cli_words.proofs.ToleranceLemmas.{number_read}
use Rattle.cli_words.proofs.tolerance_text.number_in.Goals as goal

pub returns-clause-value : goal.returns-clause-value
returns-clause-value c =
    let some : 0 < length c.args.text.now = grind (arith, nat_tests) in
    let few : length c.args.text.now ≤ 9 = omega arith in
    (number_read c.args.text.now (sym c.is_digits.ensures ∙ c.if-not-is_digits.false) some few c.parse.result c.ok.result c.parse.ensures.value.0 c.ok.ensures.value).0

pub returns-clause-small : goal.returns-clause-small
returns-clause-small c =
    let some : 0 < length c.args.text.now = grind (arith, nat_tests) in
    let few : length c.args.text.now ≤ 9 = omega arith in
    (number_read c.args.text.now (sym c.is_digits.ensures ∙ c.if-not-is_digits.false) some few c.parse.result c.ok.result c.parse.ensures.value.0 c.ok.ensures.value).1
