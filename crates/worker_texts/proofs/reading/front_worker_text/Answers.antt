use Rattle.piece_states.proofs.ToldBack.{only_read}
use Rattle.worker_texts.specs.WorkerText.{text_in}
use Rattle.worker_texts.specs.TextValue.{worker_text_of}
use Rattle.worker_texts.proofs.TextsBack.{text_back, some_read}
use Rattle.worker_texts.proofs.reading.front_worker_text.Goals as goal

pub returns-clause-some : goal.returns-clause-some
returns-clause-some c = some_read (λ r. worker_text_of r.0) (λ r. r.1) c.args.text.now c.text_at.result c.text_at.ensures.found

pub returns-clause-only : goal.returns-clause-only
returns-clause-only c told rest has is =
    only_read (λ r. worker_text_of r.0) c.text_at.result told (text_in c.args.text.now) (text_back told rest c.args.text.now has is) c.text_at.ensures.read
