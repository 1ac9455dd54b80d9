use Rattle.std.proofs.Common.{◌≡◌, ◌++◌, map, drop}
use Rattle.pl94_counties.specs.CountyNames.{county_name}
use Rattle.json_report.specs.Parts.{name_members}
use Rattle.json_report.proofs.parts.push_name_members.Given as goal

abbrev pub invariant-loop-county : goal.invariant-loop-county
invariant-loop-county l = record {
  before : l.out.before ≡ l.fn.out.before;
  so_far : l.out.tokens ++ name_members (map county_name (drop l.county-index l.named))
      ≡ l.fn.out.tokens ++ name_members (map county_name l.named);
}
