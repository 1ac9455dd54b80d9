use Rattle.std.proofs.Common.{◌≡◌, ◌∙◌, ◌+◌, ◌*◌, ℕ, length, drop, rules, sym, ap}
use Rattle.list_report.specs.Alternatives.{product}
use Rattle.std.proofs.Math.Nat.{mul_assoc}
use Rattle.list_report.proofs.Loops.{read}
use Rattle.list_report.proofs.alternatives.has_product.Goals as goal

pub loop-region-preserved : goal.loop-region-preserved
loop-region-preserved c =
    let rest = drop (c.loop-region.region-index + 1) c.args.regions.now in
    let left = read product c.args.regions.now c.loop-region.region-index c.region-item.result c.loop-region-test.true c.region-item.is in
    let more : c.in-Some.more ≡ c.loop-region.so_far * length c.region-item.result.alternatives = search rules in
    ap (λ (n : ℕ). n * product rest) more ∙ (mul_assoc c.loop-region.so_far (length c.region-item.result.alternatives) (product rest) ∙ (ap (λ (n : ℕ). c.loop-region.so_far * n) (sym left) ∙ c.loop-region.invariant))
