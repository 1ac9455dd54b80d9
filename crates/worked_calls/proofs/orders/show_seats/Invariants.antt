use Rattle.std.proofs.Common.{◌≡◌, ◌+◌, drop}
use Rattle.place_sets.specs.Lists.{sum_by}
use Rattle.worked_calls.proofs.orders.show_seats.Given as goal

abbrev pub invariant-loop-entry : goal.invariant-loop-entry
invariant-loop-entry l = l.sum + sum_by (λ n. n) (drop l.entry-index l.people) ≡ sum_by (λ n. n) l.people
