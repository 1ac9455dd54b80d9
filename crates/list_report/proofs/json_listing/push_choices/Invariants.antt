use Rattle.std.proofs.Common.{◌≡◌, ◌++◌, drop, ◌+◌}
use Rattle.list_report.specs.ListingObject.{choice_objects}
use Rattle.list_report.proofs.json_listing.push_choices.Given as goal

abbrev pub invariant-loop-i : goal.invariant-loop-i
invariant-loop-i l = record {
  before : l.out.before ≡ l.fn.out.before;
  so_far : l.out.tokens ++ choice_objects l.regions (l.i + 1) (drop l.i l.listed)
      ≡ l.fn.out.tokens ++ choice_objects l.regions 1 l.listed;
}
