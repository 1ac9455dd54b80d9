use Rattle.std.proofs.Common.{◌≡◌, ◌++◌, drop}
use Rattle.list_report.specs.Alternatives.{with_alternatives}
use Rattle.list_report.proofs.alternatives.regions_with.Given as goal

abbrev pub invariant-loop-counties : goal.invariant-loop-counties
invariant-loop-counties l = l.regions.items ++ with_alternatives l.listed (drop l.counties-index l.parts) ≡ with_alternatives l.listed l.parts
