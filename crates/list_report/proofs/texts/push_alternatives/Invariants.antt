use Rattle.std.proofs.Common.{◌≡◌, ◌+◌, ◌++◌, drop}
use Rattle.list_report.specs.Listing.{alternatives_text}
use Rattle.list_report.proofs.texts.push_alternatives.Given as goal

abbrev pub invariant-loop-i : goal.invariant-loop-i
invariant-loop-i l = l.out.items ++ alternatives_text l.problem (l.i + 1) (drop l.i l.alternatives) ≡ l.fn.out.items ++ alternatives_text l.problem 1 l.alternatives
