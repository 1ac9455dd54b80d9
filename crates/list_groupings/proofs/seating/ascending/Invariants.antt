use Rattle.std.proofs.Common.{◌≡◌, filter, take}
use Rattle.county_codes.specs.Counties.{codes_of}
use Rattle.grouping_laws.specs.Sets.{contains}
use Rattle.list_groupings.proofs.seating.ascending.Given as goal

abbrev pub invariant-loop-county : goal.invariant-loop-county
invariant-loop-county l = l.found.items ≡ filter (contains l.codes) (codes_of (take l.county-index l.county-items))
