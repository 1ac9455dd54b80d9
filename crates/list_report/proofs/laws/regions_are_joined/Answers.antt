use Rattle.list_report.proofs.Joining.{first_is_least}
use Rattle.list_report.proofs.Listed.{regions_are_joined}
use Rattle.list_report.proofs.laws.regions_are_joined.Goals as goal

pub returns-clause-joined : goal.returns-clause-joined
returns-clause-joined c = regions_are_joined

pub returns-clause-least : goal.returns-clause-least
returns-clause-least c = first_is_least
