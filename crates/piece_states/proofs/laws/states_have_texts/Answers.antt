use Rattle.piece_states.proofs.Examples.{path_told}
use Rattle.piece_states.proofs.ToldTexts.{states_have_texts}
use Rattle.piece_states.proofs.laws.states_have_texts.Goals as goal

pub returns-clause-law : goal.returns-clause-law
returns-clause-law c = states_have_texts

pub returns-clause-example : goal.returns-clause-example
returns-clause-example c = path_told
