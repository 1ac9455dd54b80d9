use Rattle.list_laws.proofs.Examples.{complete, listed, not_complete}
use Rattle.list_laws.proofs.laws.example_lists.Goals as goal

pub returns-clause-complete : goal.returns-clause-complete
returns-clause-complete c = complete

pub returns-clause-listed : goal.returns-clause-listed
returns-clause-listed c = listed

pub returns-clause-not_complete : goal.returns-clause-not_complete
returns-clause-not_complete c = not_complete
