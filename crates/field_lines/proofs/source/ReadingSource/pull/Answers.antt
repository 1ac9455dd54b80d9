use Rattle.std.proofs.Common.{refl}
use Rattle.field_lines.proofs.source.ReadingSource.pull.Goals as goal

pub returns-clause-failed : goal.returns-clause-failed
returns-clause-failed g c = refl
