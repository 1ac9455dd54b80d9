use Rattle.std.proofs.Common.{ℕ, ◌<◌}
use Rattle.grouping_laws.specs.Problem.{Suits}
use Rattle.county_problem.specs.OrderedValue.{problem_at}
use Rattle.state_groups.specs.People.{HasSeatWindow}
use Rattle.state_groups.proofs.windows.seat_windows.Given as goal

abbrev pub invariant-loop-seats : goal.invariant-loop-seats
invariant-loop-seats l = (people seats : ℕ) → seats < l.seats → Suits (problem_at l.ordered) people seats → HasSeatWindow l.windows.items people
