use Rattle.board_laws.proofs.OneText.{joined_texts_are_one}
use Rattle.board_laws.proofs.joined_texts.joined_texts_are_one.Goals as goal

pub returns : goal.returns
returns c = joined_texts_are_one
