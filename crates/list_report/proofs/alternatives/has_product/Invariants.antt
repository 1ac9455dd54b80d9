use Rattle.std.proofs.Common.{◌≡◌, ◌*◌, drop}
use Rattle.list_report.specs.Alternatives.{product}
use Rattle.list_report.proofs.alternatives.has_product.Given as goal

abbrev pub invariant-loop-region : goal.invariant-loop-region
invariant-loop-region l = l.so_far * product (drop l.region-index l.regions) ≡ product l.regions
