use Rattle.worker_texts.specs.TextValue.{worker_text_of}
use Rattle.worker_texts.proofs.WorkerForm.{front_only, front_fault}
use Rattle.worker_texts.proofs.text_reader.WorkerFormTextForm.front_text.Goals as goal

pub returns-clause-only : goal.returns-clause-only
returns-clause-only c = front_only (λ r. worker_text_of r.0) c.args.bytes.now c.front_worker_text.result c.front_worker_text.ensures.only

pub returns-clause-fault : goal.returns-clause-fault
returns-clause-fault c = front_fault (λ r. worker_text_of r.0) c.args.bytes.now c.front_worker_text.result c.front_worker_text.ensures.read
