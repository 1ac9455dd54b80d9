use Rattle.checker_laws.proofs.Work.{lines_carry}
use Rattle.checker_laws.proofs.laws.lines_carry.Goals as goal

pub returns : goal.returns
returns c = lines_carry
