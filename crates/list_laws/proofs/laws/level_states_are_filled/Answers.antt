use Rattle.list_laws.proofs.Level.{level_states}
use Rattle.list_laws.proofs.laws.level_states_are_filled.Goals as goal

pub returns : goal.returns
returns c = level_states
