use Rattle.std.proofs.Common.{◌≡◌, ◌+◌, filter, drop}
use Rattle.county_codes.specs.Counties.{people_in}
use Rattle.grouping_laws.specs.Sets.{contains}
use Rattle.list_report.proofs.texts.people_of.Given as goal

abbrev pub invariant-loop-county : goal.invariant-loop-county
invariant-loop-county l = l.people + people_in (filter (λ k. contains l.set k.code) (drop l.county-index l.counties)) ≡ people_in (filter (λ k. contains l.set k.code) l.counties)
