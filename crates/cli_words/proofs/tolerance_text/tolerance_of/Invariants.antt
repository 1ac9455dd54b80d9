use Rattle.std.proofs.Common.{◌≡◌, ◌≤◌}
use Rattle.cli_words.specs.Tolerance.{least_whole}
use Rattle.cli_words.proofs.tolerance_text.tolerance_of.Given as goal

abbrev pub invariant-loop-least : goal.invariant-loop-least
invariant-loop-least l = record {
  some : 1 ≤ l.least;
  rest : least_whole l.least (l.part, l.whole) ≡ least_whole 1 (l.part, l.whole);
}
