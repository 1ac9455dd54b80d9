use Rattle.std.proofs.Common.{◌≡◌, ◌++◌, drop, ◌+◌}
use Rattle.list_report.specs.ListingObject.{alternative_objects}
use Rattle.list_report.proofs.json_listing.push_alternatives.Given as goal

abbrev pub invariant-loop-i : goal.invariant-loop-i
invariant-loop-i l = record {
  before : l.out.before ≡ l.fn.out.before;
  so_far : l.out.tokens ++ alternative_objects l.problem (l.i + 1) (drop l.i l.alternatives)
      ≡ l.fn.out.tokens ++ alternative_objects l.problem 1 l.alternatives;
}
