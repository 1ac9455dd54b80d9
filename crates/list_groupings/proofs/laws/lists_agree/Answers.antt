use Rattle.list_groupings.proofs.Canonical.{lists_same}
use Rattle.list_groupings.proofs.laws.lists_agree.Goals as goal

pub returns : goal.returns
returns c = lists_same
