use Rattle.std.proofs.Common.{◌≡◌, [], length}
use Rattle.people_table.specs.Listed.{counties_after}
use Rattle.people_table.proofs.people.read_lines.Given as goal

abbrev pub invariant-loop-number : goal.invariant-loop-number
invariant-loop-number l = counties_after l.delimiter l.state l.found.items l.lines.lines l.lines.fault ≡ counties_after l.delimiter l.state [] l.fn.lines.lines l.fn.lines.fault

abbrev pub decreases-loop-number : goal.decreases-loop-number
decreases-loop-number l = length l.lines.lines
