use Rattle.std.proofs.Common.{◌≡◌, ℕ, List, [], ap}
use Rattle.grouping_laws.specs.Ranges.{seated}
use Rattle.list_groupings.proofs.SeatingLemmas.{mapped_same}
use Rattle.list_groupings.proofs.seating.seated_groups.Goals as goal

pub loop-i-init : goal.loop-i-init
loop-i-init c = let e : c.new-groups.result.items ≡ [] = c.new-groups.ensures.items in rw e (ap (λ (z : List (List ℕ)). seated z c.args.seats.now) (mapped_same c.args.sets.now))
