use Rattle.list_laws.proofs.Searching.{complete_search_ends}
use Rattle.list_laws.proofs.laws.complete_searches_end.Goals as goal

pub returns : goal.returns
returns c = complete_search_ends
