use Rattle.cli.proofs.program.run_program.Goals as goal

pub returns-else-is_empty-clause-words : goal.returns-else-is_empty-clause-words
returns-else-is_empty-clause-words g c = λ _. c.run_with_notes.ensures.run
