use Rattle.std.proofs.Common.{map}
use Rattle.std.proofs.lemmas.Map.Keys.{IsStrictlyIncreasing-from_sorted}
use Rattle.pl94_counties.proofs.area_list.some_areas.Goals as goal

pub returns-in_default-clause-ascending : goal.returns-in_default-clause-ascending
returns-in_default-clause-ascending c = IsStrictlyIncreasing-from_sorted (map (λ e. e.0) c.args.found.entries) c.len.ensures.ordered
