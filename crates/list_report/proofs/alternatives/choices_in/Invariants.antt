use Rattle.std.proofs.Common.{◌≡◌, fold, map, drop}
use Rattle.list_report.specs.Alternatives.{sets_inside, add_choice, alternatives}
use Rattle.list_report.proofs.alternatives.choices_in.Given as goal

abbrev pub invariant-loop-sets : goal.invariant-loop-sets
invariant-loop-sets l = fold add_choice l.list.items (map (sets_inside l.counties) (drop l.sets-index l.listed)) ≡ alternatives l.listed l.counties
