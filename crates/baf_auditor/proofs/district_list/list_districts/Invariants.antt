use Rattle.std.proofs.Common.{◌≡◌, ◌++◌, map}
use Rattle.std.specs.List.{All}
use Rattle.baf_auditor.specs.Districts.{IsListedBy}
use Rattle.baf_auditor.proofs.district_list.list_districts.Given as goal

abbrev pub invariant-loop-label : goal.invariant-loop-label
invariant-loop-label l = record {
  people : map (λ d. (d.label, d.people)) l.districts.items ++ l.label-iterator ≡ l.sums.entries;
  listed : All (IsListedBy l.groups l.standing l.counties) l.districts.items;
}
