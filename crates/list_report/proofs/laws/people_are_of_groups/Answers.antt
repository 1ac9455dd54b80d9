use Rattle.list_report.proofs.GroupPeople.{people_are_of_groups}
use Rattle.list_report.proofs.laws.people_are_of_groups.Goals as goal

pub returns : goal.returns
returns c = people_are_of_groups
