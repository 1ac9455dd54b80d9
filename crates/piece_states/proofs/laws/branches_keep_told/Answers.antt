use Rattle.piece_states.proofs.KeptTold.{branches_keep_told}
use Rattle.piece_states.proofs.laws.branches_keep_told.Goals as goal

pub returns : goal.returns
returns c = branches_keep_told
