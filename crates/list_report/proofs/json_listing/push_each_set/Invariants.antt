use Rattle.std.proofs.Common.{◌≡◌, ◌++◌, drop}
use Rattle.list_report.specs.ListingObject.{set_objects}
use Rattle.list_report.proofs.json_listing.push_each_set.Given as goal

abbrev pub invariant-loop-set : goal.invariant-loop-set
invariant-loop-set l = record {
  before : l.out.before ≡ l.fn.out.before;
  so_far : l.out.tokens ++ set_objects l.problem (drop l.set-index l.sets)
      ≡ l.fn.out.tokens ++ set_objects l.problem l.sets;
}
