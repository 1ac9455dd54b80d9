use Rattle.grouping_laws.specs.Grouping.{counts, sets_of}
use Rattle.search_groups.specs.Positions.{search_state}
use Rattle.search_groups.specs.Standing.{IsLevel}
use Rattle.search_ends.proofs.standing.first_difference.Given as goal

abbrev pub invariant-loop-below : goal.invariant-loop-below
invariant-loop-below g l = IsLevel (counts (sets_of l.target.groups.items)) (search_state l.input g.C.CountySet.test l.state) l.below
