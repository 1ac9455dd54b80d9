use Rattle.std.proofs.Common.{◌≡◌, ◌∙◌, ℕ, length, drop, ap, arith}
use Rattle.std.specs.Prelude.{nat_le}
use Rattle.std.specs.Fmt.{decimal}
use Rattle.std.proofs.lemmas.List.{at_drop_all}
use Rattle.field_lines.specs.Fault.{most_bytes}
use Rattle.certificate_lines.proofs.FittingLaws.{weigh_bytes, words_length, first_length, more_length}
use Rattle.certificate_lines.proofs.fitting.is_short.Goals as goal

pub loop-weight-init : goal.loop-weight-init
loop-weight-init c = record {
  same = first_length c.args.quota c.decimal_length-length.result c.args.weights.now (c.decimal_length-length.ensures.value ∙ ap (λ (n : ℕ). length (decimal n)) c.from.ensures);
  small = omega (arith, c.decimal_length-length.ensures.small);
}

pub loop-weight-preserved : goal.loop-weight-preserved
loop-weight-preserved c = record {
  same =
      more_length c.args.weights.now c.loop-weight.weight-index c.weight-item.result c.loop-weight.length c.decimal_length.result (length (weigh_bytes c.args.quota c.args.weights.now)) c.loop-weight-test.true c.weight-item.is
      (c.decimal_length.ensures.value ∙ ap (λ (n : ℕ). length (decimal n)) c.from-in-loop-weight.ensures) c.loop-weight.invariant.same;
  small = omega (arith, c.decimal_length.ensures.small, c.if-length-gt-MAX_LINE.false);
}

pub returns : goal.returns
returns c =
    let none : words_length (drop c.loop-weight.weight-index c.args.weights.now) ≡ 0 = at_drop_all words_length c.args.weights.now c.loop-weight.weight-index c.loop-weight-test.false in
    let same : c.loop-weight.length ≡ length (weigh_bytes c.args.quota c.args.weights.now) = omega (arith, c.loop-weight.invariant.same, none) in
    ap (λ (n : ℕ). nat_le n most_bytes) same
