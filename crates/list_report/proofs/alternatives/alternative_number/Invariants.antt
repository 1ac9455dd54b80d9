use Rattle.std.proofs.Common.{◌≡◌, ◌+◌, drop}
use Rattle.list_report.specs.Alternatives.{number_of_alternative}
use Rattle.list_report.proofs.alternatives.alternative_number.Given as goal

abbrev pub invariant-loop-i : goal.invariant-loop-i
invariant-loop-i l = l.i + number_of_alternative (drop l.i l.choices) l.choice ≡ number_of_alternative l.choices l.choice
