use Rattle.certificate_laws.proofs.Ends.{finished_state_beats}
use Rattle.certificate_laws.proofs.laws.finished_states_beat.Goals as goal

pub returns : goal.returns
returns c = finished_state_beats
