use Rattle.std.proofs.Common.{◌≡◌, ◌++◌}
use Rattle.std.specs.List.{filter_map}
use Rattle.baf_auditor.specs.Districts.{size_finding}
use Rattle.baf_auditor.proofs.sizes.add_sizes.Given as goal

abbrev pub invariant-loop-label : goal.invariant-loop-label
invariant-loop-label l = l.findings.items ++ filter_map (size_finding l.bounds.0 l.bounds.1) l.label-iterator ≡ l.fn.findings.items ++ filter_map (size_finding l.bounds.0 l.bounds.1) l.sums.entries
