use Rattle.std.proofs.Common.{◌≡◌, ◌≤◌, ◌*◌}
use Rattle.county_problem.specs.CountList.{count_at}
use Rattle.certificate_laws.specs.State.{State}
use Rattle.list_laws.specs.Shortfalls.{still_wanted}
use Rattle.list_groupings.proofs.shortfall.still_wanted.Given as goal

abbrev pub invariant-loop-before : goal.invariant-loop-before
invariant-loop-before l = record {
  sum : (s : State) → l.closed ≡ s.closed → l.counties ≡ still_wanted s (count_at l.wanted) l.before;
  few : l.counties ≤ 16776960 * l.before;
}
