use Rattle.std.proofs.Common.{◌≡◌, drop, length}
use Rattle.std.specs.Prelude.{fold, max}
use Rattle.branch_bound.specs.Resuming.{longest}
use Rattle.cli_reports.proofs.board_reports.longest.Given as goal

abbrev pub invariant-loop-group : goal.invariant-loop-group
invariant-loop-group l = record {
  left : fold (λ most m. max most (length m.codes)) l.most (drop l.group-index l.groups) ≡ longest l.groups;
}
