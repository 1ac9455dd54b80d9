use Rattle.board_laws.proofs.Joining.{skeletons_join}
use Rattle.board_laws.proofs.laws.skeletons_join.Goals as goal

pub returns : goal.returns
returns c = skeletons_join
