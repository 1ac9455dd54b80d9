use Rattle.std.proofs.Common.{length}
use Rattle.county_problem.specs.OrderedValue.{problem_at}
use Rattle.worked_calls.proofs.certificates.parts.judged.Goals as goal

pub check_part-requires-clause-lists : goal.check_part-requires-clause-lists
check_part-requires-clause-lists c = c.new-lists.ensures.lists (problem_at c.in_ok-graph.graph.ordered.now) (length c.in_ok-graph.graph.ordered.now.order)
