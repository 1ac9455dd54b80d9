use Rattle.piece_worker.proofs.answering.ended_answer.Goals as goal

pub returns-clause-answer : goal.returns-clause-answer
returns-clause-answer g c = λ last holds. (c.in_ok-text.text.items, c.in_ok-text.ensures.answer last holds, c.in_ok-extend_from_slice.ensures.items)
