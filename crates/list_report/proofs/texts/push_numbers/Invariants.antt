use Rattle.std.proofs.Common.{◌≡◌, ◌++◌, drop}
use Rattle.list_report.specs.Listing.{choice_numbers}
use Rattle.list_report.proofs.texts.push_numbers.Given as goal

abbrev pub invariant-loop-region : goal.invariant-loop-region
invariant-loop-region l = l.out.items ++ choice_numbers (drop l.region-index l.regions) l.sets ≡ l.fn.out.items ++ choice_numbers l.regions l.sets
