use Rattle.checker_laws.proofs.BoundWork.{bound_lines_carry}
use Rattle.checker_laws.proofs.laws.bound_lines_carry.Goals as goal

pub returns : goal.returns
returns c = bound_lines_carry
