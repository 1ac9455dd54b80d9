use Rattle.std.proofs.Common.{◌≡◌, ◌++◌, drop}
use Rattle.district_table.specs.DistrictTable.{district_lines}
use Rattle.district_table.proofs.table.push_districts.Given as goal

abbrev pub invariant-loop-district : goal.invariant-loop-district
invariant-loop-district l = l.out.items ++ district_lines l.bounds (drop l.district-index l.districts) ≡ l.fn.out.items ++ district_lines l.bounds l.districts
