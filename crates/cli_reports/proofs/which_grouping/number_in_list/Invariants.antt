use Rattle.std.proofs.Common.{◌≡◌, ◌+◌, drop, map}
use Rattle.std.specs.List.{position_from}
use Rattle.list_groupings.specs.Walking.{sets_held}
use Rattle.run_laws.specs.WhichGrouping.{have_same_sets, number_in_list}
use Rattle.cli_reports.proofs.which_grouping.number_in_list.Given as goal

abbrev pub invariant-loop-i : goal.invariant-loop-i
invariant-loop-i l =
    position_from (have_same_sets l.grouping.groups.items) (l.i + 1) (map sets_held (drop l.i l.groupings))
    ≡ number_in_list l.grouping.groups.items (map sets_held l.groupings)
