use Rattle.std.proofs.Common.{◌≡◌, ◌≤◌}
use Rattle.county_codes.specs.Limits.{most_counties}
use Rattle.grouping_laws.specs.Grouping.{counts, sets_of}
use Rattle.search_groups.specs.Positions.{search_problem, search_round, search_state}
use Rattle.bound_proofs.proofs.CountBounds.{ReachedBy}
use Rattle.bound_proofs.proofs.bound.lines_to_bound.Given as goal

abbrev pub invariant-loop-groups : goal.invariant-loop-groups
invariant-loop-groups g l = record {
  size : l.size ≡ l.groups-index;
  few : l.used ≤ most_counties;
  reached : ReachedBy (search_problem l.input) (search_round l.input) (search_state l.input g.C.CountySet.test l.state) (counts (sets_of l.target.groups.items)) l.size l.used;
}
