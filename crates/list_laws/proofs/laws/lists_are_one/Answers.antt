use Rattle.list_laws.proofs.Numbers.{lists_one}
use Rattle.list_laws.proofs.laws.lists_are_one.Goals as goal

pub returns : goal.returns
returns c = lists_one
