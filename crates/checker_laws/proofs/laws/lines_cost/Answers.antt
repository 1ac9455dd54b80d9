use Rattle.checker_laws.proofs.WorkCost.{lines_cost}
use Rattle.checker_laws.proofs.laws.lines_cost.Goals as goal

pub returns : goal.returns
returns c = lines_cost
