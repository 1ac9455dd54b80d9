use Rattle.std.proofs.Common.{◌≡◌, List, ◌/◌, min, length, ap, ◌∙◌, arith}
use Rattle.grouping_laws.specs.Sets.{sum_by}
use Rattle.certificate_laws.specs.State.{open_to}
use Rattle.certificate_laws.specs.Regions.{listed}
use Rattle.certificate_data.specs.declared.weights.Weight.{Weight}
use Rattle.state_judge.specs.Weights.{county_weight}
use Rattle.list_groupings.proofs.ShortfallLemmas.{allowed_weigh}
use Rattle.list_groupings.proofs.shortfall.allowance.Goals as goal

pub returns-in-Weigh : goal.returns-in-Weigh
returns-in-Weigh c = record {
  value = λ p s h.
      let size : c.from-size.result ≡ c.args.size = omega arith in
      let openings : c.open_counties-open.result ≡ length (listed p (open_to s c.args.size)) = c.open_counties-open.ensures p s h ∙ ap (λ z. length (listed p (open_to s z))) size in
      let weight : c.open_weight.result ≡ sum_by (county_weight c.in-Weigh.weights) (listed p (open_to s c.args.size)) =
      c.open_weight.ensures p s h
      ∙ (ap (λ z. sum_by (county_weight c.as_slice.result.now) (listed p (open_to s z))) size ∙ ap (λ (z : List Weight). sum_by (county_weight z) (listed p (open_to s c.args.size))) c.as_slice.ensures) in
      let divided : c.from.result ≡ c.args.size = omega arith in
      let quota : c.from-in-Weigh.result ≡ c.in-Weigh.quota = omega arith in
      let all : c.min.result ≡ min (c.saturating_sub.result / c.args.size) (c.open_weight.result / c.in-Weigh.quota) =
      c.min.ensures ∙ (ap (λ z. min (c.saturating_sub.result / z) (c.open_weight.result / c.from-in-Weigh.result)) divided ∙ ap (λ z. min (c.saturating_sub.result / c.args.size) (c.open_weight.result / z)) quota) in
      rw c.in-Weigh.is
      (allowed_weigh p s c.args.size c.args.used c.in-Weigh.quota c.in-Weigh.weights c.open_counties-open.result c.saturating_sub.result c.open_weight.result c.min.result openings (omega arith) weight all);
}
