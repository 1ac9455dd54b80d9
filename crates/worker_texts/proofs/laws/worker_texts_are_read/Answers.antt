use Rattle.worker_texts.proofs.Examples.{round_is}
use Rattle.worker_texts.proofs.TextLaws.{worker_texts_are_read}
use Rattle.worker_texts.proofs.laws.worker_texts_are_read.Goals as goal

pub returns-clause-law : goal.returns-clause-law
returns-clause-law c = worker_texts_are_read

pub returns-clause-example : goal.returns-clause-example
returns-clause-example c = round_is
