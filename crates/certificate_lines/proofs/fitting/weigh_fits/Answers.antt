use Rattle.std.proofs.Common.{◌≡◌, ◌∙◌, true, sym}
use Rattle.certificate_lines.proofs.FittingLaws.{ranges, weights_pass, weights_fit}
use Rattle.certificate_lines.proofs.fitting.weigh_fits.Goals as goal

pub returns-then-not-have_ranges : goal.returns-then-not-have_ranges
returns-then-not-have_ranges c = (
  (λ e. cc),
  (λ are.
      let pass : ranges c.args.quota c.args.weights.now ≡ true = (weights_pass c.args.quota c.args.weights.now are).0 in
      cc (c.have_ranges.ensures, c.if-not-have_ranges.true)),
)

pub returns : goal.returns
returns c = (
  (λ e. weights_fit c.args.quota c.args.weights.now (sym c.have_ranges.ensures ∙ c.if-not-have_ranges.false) (sym c.is_short.ensures ∙ e)),
  (λ are. c.is_short.ensures ∙ (weights_pass c.args.quota c.args.weights.now are).1),
)
