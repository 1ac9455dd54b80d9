use Rattle.board_laws.proofs.Pieces.{pieces_stand}
use Rattle.board_laws.proofs.laws.pieces_stand.Goals as goal

pub returns : goal.returns
returns c = pieces_stand
