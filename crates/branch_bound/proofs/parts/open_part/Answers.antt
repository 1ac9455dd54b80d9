use Rattle.std.proofs.Common.{None}
use Rattle.branch_bound.proofs.OpenParts.{alone}
use Rattle.branch_bound.proofs.parts.open_part.Goals as goal

pub returns : goal.returns
returns c = alone c.new.result None c.new.ensures.items
