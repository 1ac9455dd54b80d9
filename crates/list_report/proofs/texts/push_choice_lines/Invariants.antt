use Rattle.std.proofs.Common.{◌≡◌, ◌+◌, ◌++◌, drop}
use Rattle.list_report.specs.Listing.{choice_lines}
use Rattle.list_report.proofs.texts.push_choice_lines.Given as goal

abbrev pub invariant-loop-i : goal.invariant-loop-i
invariant-loop-i l = l.out.items ++ choice_lines l.regions (l.i + 1) (drop l.i l.listed) ≡ l.fn.out.items ++ choice_lines l.regions 1 l.listed
