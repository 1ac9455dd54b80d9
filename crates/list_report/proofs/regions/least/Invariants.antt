use Rattle.std.proofs.Common.{◌≡◌, min, fold, drop}
use Rattle.list_report.proofs.regions.least.Given as goal

abbrev pub invariant-loop-code : goal.invariant-loop-code
invariant-loop-code l = fold min l.least (drop l.code-index l.codes) ≡ fold min l.fn.start l.codes
