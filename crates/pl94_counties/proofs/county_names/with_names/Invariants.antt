use Rattle.std.proofs.Common.{◌≡◌, ◌++◌, map, drop}
use Rattle.pl94_counties.specs.CountyNames.{county_name, with_names}
use Rattle.pl94_counties.proofs.county_names.with_names.Given as goal

abbrev pub invariant-loop-county : goal.invariant-loop-county
invariant-loop-county l = record {
  names : map county_name l.named.items ++ with_names l.names (drop l.county-index l.counties) ≡ with_names l.names l.counties;
  same : map (λ k. k.county) l.named.items ++ drop l.county-index l.counties ≡ l.counties;
}
