use Rattle.std.proofs.Common.{map}
use Rattle.std.proofs.lemmas.Map.Keys.{IsStrictlyIncreasing-from_sorted}
use Rattle.pl94_counties.proofs.named_counties.some_found.Goals as goal

pub returns-in_default-clause-ascending : goal.returns-in_default-clause-ascending
returns-in_default-clause-ascending c = IsStrictlyIncreasing-from_sorted (map (λ e. e.0) c.args.found.people.entries) c.len.ensures.ordered
