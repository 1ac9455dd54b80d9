use Rattle.std.proofs.Common.{◌≡◌, ◌++◌, drop}
use Rattle.list_report.specs.Listing.{set_lines}
use Rattle.list_report.proofs.texts.push_lines.Given as goal

abbrev pub invariant-loop-set : goal.invariant-loop-set
invariant-loop-set l = l.out.items ++ set_lines l.problem (drop l.set-index l.sets) ≡ l.fn.out.items ++ set_lines l.problem l.sets
