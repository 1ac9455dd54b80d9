use Rattle.std.proofs.Common.{refl}
use Rattle.certificate_lines.proofs.fitting.are_few.Goals as goal

pub returns : goal.returns
returns c = refl
