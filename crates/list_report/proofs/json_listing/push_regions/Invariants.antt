use Rattle.std.proofs.Common.{◌≡◌, ◌++◌, drop, ◌+◌}
use Rattle.list_report.specs.ListingObject.{region_objects}
use Rattle.list_report.proofs.json_listing.push_regions.Given as goal

abbrev pub invariant-loop-i : goal.invariant-loop-i
invariant-loop-i l = record {
  before : l.out.before ≡ l.fn.out.before;
  so_far : l.out.tokens ++ region_objects l.problem (l.i + 1) (drop l.i l.regions)
      ≡ l.fn.out.tokens ++ region_objects l.problem 1 l.regions;
}
