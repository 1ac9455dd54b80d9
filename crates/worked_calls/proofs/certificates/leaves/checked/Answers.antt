use Rattle.connected_sets.specs.Graphs.{place_problem, graph_places}
use Rattle.worked_calls.proofs.certificates.leaves.checked.Goals as goal

pub check_tree-requires-clause-lists : goal.check_tree-requires-clause-lists
check_tree-requires-clause-lists g c = c.new-lists.ensures.lists (place_problem c.args.graph.now) (graph_places c.args.graph.now)
