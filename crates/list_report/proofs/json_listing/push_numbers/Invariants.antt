use Rattle.std.proofs.Common.{◌≡◌, ◌++◌, drop}
use Rattle.list_report.specs.ListingObject.{choice_numbers}
use Rattle.list_report.proofs.json_listing.push_numbers.Given as goal

abbrev pub invariant-loop-region : goal.invariant-loop-region
invariant-loop-region l = record {
  before : l.out.before ≡ l.fn.out.before;
  so_far : l.out.tokens ++ choice_numbers (drop l.region-index l.regions) l.sets
      ≡ l.fn.out.tokens ++ choice_numbers l.regions l.sets;
}
