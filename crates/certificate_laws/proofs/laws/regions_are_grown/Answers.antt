use Rattle.certificate_laws.proofs.RegionGrowthLemmas.{regions_are_grown}
use Rattle.certificate_laws.proofs.laws.regions_are_grown.Goals as goal

pub returns : goal.returns
returns c = regions_are_grown
