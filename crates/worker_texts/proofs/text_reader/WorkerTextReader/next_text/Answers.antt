use Rattle.worker_texts.proofs.WorkerForm.{worker_by_lines}
use Rattle.worker_texts.proofs.text_reader.WorkerTextReader.next_text.Goals as goal

pub next_text-requires-clause-by_lines : goal.next_text-requires-clause-by_lines
next_text-requires-clause-by_lines g c = worker_by_lines
