use Rattle.checker_laws.proofs.Costs.{costs_are_one}
use Rattle.checker_laws.proofs.laws.costs_are_one.Goals as goal

pub returns : goal.returns
returns c = costs_are_one
