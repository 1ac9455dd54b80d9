use Rattle.std.proofs.Common.{refl}
use Rattle.branch_bound.proofs.parts.stopped_behind.Goals as goal

pub returns : goal.returns
returns c = (c.in_ok-joined.joined, refl, c.in_ok-joined.ensures)
