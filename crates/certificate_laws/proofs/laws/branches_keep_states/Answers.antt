use Rattle.certificate_laws.proofs.Branches.{branch_keeps_state}
use Rattle.certificate_laws.proofs.laws.branches_keep_states.Goals as goal

pub returns : goal.returns
returns c = branch_keeps_state
