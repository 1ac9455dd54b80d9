use Rattle.certificate_laws.proofs.PlaceStates.{states_have_codes}
use Rattle.certificate_laws.proofs.laws.states_have_codes.Goals as goal

pub returns : goal.returns
returns c = states_have_codes
