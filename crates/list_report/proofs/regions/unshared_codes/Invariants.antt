use Rattle.std.proofs.Common.{◌≡◌, ◌++◌, drop}
use Rattle.county_codes.specs.Counties.{codes_of}
use Rattle.list_report.specs.Regions.{unshared_counties}
use Rattle.list_report.proofs.regions.unshared_codes.Given as goal

abbrev pub invariant-loop-county : goal.invariant-loop-county
invariant-loop-county l = l.unshared.items ++ unshared_counties (codes_of (drop l.county-index l.counties)) l.shared ≡ unshared_counties (codes_of l.counties) l.shared
