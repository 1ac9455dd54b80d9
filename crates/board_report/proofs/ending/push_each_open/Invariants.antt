use Rattle.std.proofs.Common.{◌≡◌, ◌++◌, drop}
use Rattle.std.specs.List.{flat_map}
use Rattle.board_report.specs.BoardOutcome.{open_line}
use Rattle.board_report.proofs.ending.push_each_open.Given as goal

abbrev pub invariant-loop-piece : goal.invariant-loop-piece
invariant-loop-piece l = l.out.items ++ flat_map (open_line l.number) (drop l.piece-index l.found) ≡ l.fn.out.items ++ flat_map (open_line l.number) l.found
