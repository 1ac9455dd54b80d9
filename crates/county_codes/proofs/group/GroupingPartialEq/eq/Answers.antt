use Rattle.std.proofs.Common.{◌≡◌, rules}
use Rattle.std.specs.Bool.{Decides}
use Rattle.std.proofs.lemmas.Slice.Eq.{slice_eq-Decides}
use Rattle.county_codes.specs.declared.group.Group.{Group}
use Rattle.county_codes.specs.Groups.{same_group}
use Rattle.county_codes.proofs.group.GroupingPartialEq.eq.Goals as goal

group_decided : (a b : Group) → Decides (same_group a b) (a ≡ b)
group_decided a b = search rules

pub returns : goal.returns
returns c = record { value = c.eq.ensures; same = slice_eq-Decides group_decided _ _ _ c.eq.ensures }
