use Rattle.run_laws.proofs.OfTheirLoads.{of_their_loads}
use Rattle.run_laws.proofs.laws.runs_are_of_their_loads.Goals as goal

pub returns : goal.returns
returns c = of_their_loads
