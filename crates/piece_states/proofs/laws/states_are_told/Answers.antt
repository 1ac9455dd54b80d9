use Rattle.piece_states.proofs.ToldStates.{states_are_told}
use Rattle.piece_states.proofs.laws.states_are_told.Goals as goal

pub returns : goal.returns
returns c = states_are_told
