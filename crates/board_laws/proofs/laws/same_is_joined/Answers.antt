use Rattle.board_laws.proofs.Same.{same_is_joined}
use Rattle.board_laws.proofs.laws.same_is_joined.Goals as goal

pub returns : goal.returns
returns c = same_is_joined
