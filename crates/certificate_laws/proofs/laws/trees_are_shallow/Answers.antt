use Rattle.certificate_laws.proofs.Depth.{trees_are_shallow}
use Rattle.certificate_laws.proofs.laws.trees_are_shallow.Goals as goal

pub returns : goal.returns
returns c = trees_are_shallow
