use Rattle.share_board.proofs.RoundOpenings.{rounds_open}
use Rattle.share_board.proofs.laws.rounds_open.Goals as goal

pub returns : goal.returns
returns c = rounds_open
