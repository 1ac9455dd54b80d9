use Rattle.std.proofs.Common.{◌≡◌, ◌+◌, ◌++◌, drop}
use Rattle.list_report.specs.Listing.{regions_text}
use Rattle.list_report.proofs.texts.push_regions.Given as goal

abbrev pub invariant-loop-i : goal.invariant-loop-i
invariant-loop-i l = l.out.items ++ regions_text l.problem (l.i + 1) (drop l.i l.regions) ≡ l.fn.out.items ++ regions_text l.problem 1 l.regions
