use Rattle.std.proofs.Common.{◌≡◌, ◌++◌, drop, map}
use Rattle.cli.proofs.input.counties.without_names.Given as goal

abbrev pub invariant-loop-listed : goal.invariant-loop-listed
invariant-loop-listed l = l.counties.items ++ map (λ k. k.county) (drop l.listed-index l.named) ≡ map (λ k. k.county) l.named
