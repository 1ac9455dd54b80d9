use Rattle.std.proofs.Common.{◌≡◌, ◌++◌, drop}
use Rattle.std.specs.List.{filter_map}
use Rattle.baf_auditor.specs.Districts.{name_at, of_label}
use Rattle.baf_auditor.proofs.district_list.sets_of_label.Given as goal

abbrev pub invariant-loop-key : goal.invariant-loop-key
invariant-loop-key l = l.sets.items ++ filter_map (of_label (name_at l.groups) l.label) (drop l.key-index l.standing) ≡ filter_map (of_label (name_at l.groups) l.label) l.standing
