use Rattle.std.proofs.Common.{refl}
use Rattle.certificate_lines.proofs.lines.levels_after.Goals as goal

pub returns-in-Plain : goal.returns-in-Plain
returns-in-Plain c = rw c.in-Plain.is c.saturating_sub.ensures

pub returns-in-Wide : goal.returns-in-Wide
returns-in-Wide c = rw c.in-Wide.is refl
