use Rattle.std.proofs.Common.{take, All}
use Rattle.partial_text.specs.Reading.{IsWholeTake}
use Rattle.partial_text.proofs.reading.have_open_leaf.Given as goal

abbrev pub invariant-loop-take : goal.invariant-loop-take
invariant-loop-take l = All IsWholeTake (take l.take-index l.takes)
