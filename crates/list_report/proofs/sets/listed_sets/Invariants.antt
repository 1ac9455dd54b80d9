use Rattle.std.proofs.Common.{◌≡◌, ◌++◌, map, drop}
use Rattle.grouping_laws.specs.Grouping.{sets_of}
use Rattle.list_report.proofs.sets.listed_sets.Given as goal

abbrev pub invariant-loop-grouping : goal.invariant-loop-grouping
invariant-loop-grouping l = l.listed.items ++ map sets_of (map (λ g. g.groups.items) (drop l.grouping-index l.groupings)) ≡ map sets_of (map (λ g. g.groups.items) l.groupings)
