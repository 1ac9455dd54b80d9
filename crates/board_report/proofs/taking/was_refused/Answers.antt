use Rattle.board_report.proofs.InTurn.{not_memory}
use Rattle.board_report.proofs.taking.was_refused.Goals as goal

pub returns-in_default : goal.returns-in_default
returns-in_default g c = λ order test e. not_memory order test c.args.reply.now c.in_default.not-Memory
