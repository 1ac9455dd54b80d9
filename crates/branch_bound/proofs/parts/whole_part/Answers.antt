use Rattle.std.proofs.Common.{Some}
use Rattle.branch_bound.proofs.OpenParts.{alone}
use Rattle.branch_bound.proofs.parts.whole_part.Goals as goal

pub returns : goal.returns
returns c = alone c.new.result (Some c.args.tree) c.new.ensures.items
