use Rattle.board_laws.proofs.Boards.{boards_keep}
use Rattle.board_laws.proofs.laws.boards_keep.Goals as goal

pub returns : goal.returns
returns c = boards_keep
