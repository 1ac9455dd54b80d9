use Rattle.search_groups.proofs.PartFits.{parts_serve}
use Rattle.search_groups.proofs.laws.parts_serve.Goals as goal

pub returns : goal.returns
returns c = parts_serve
