use Rattle.branch_bound.proofs.OpenParts.{behind_whole}
use Rattle.branch_bound.proofs.parts.part_behind.Goals as goal

pub returns : goal.returns
returns c = behind_whole c.args.part c.append.new.self c.in_ok-branches.branches.items c.args.branches.items c.in_ok-append.ensures.items c.in_ok-branches.ensures
