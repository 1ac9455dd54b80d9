use Rattle.std.proofs.Common.{length}
use Rattle.county_problem.specs.OrderedValue.{problem_at}
use Rattle.branch_bound.proofs.pieces.ordered_piece.Goals as goal

pub prove_piece_over-requires-clause-lists : goal.prove_piece_over-requires-clause-lists
prove_piece_over-requires-clause-lists g c = c.new-lists.ensures.lists (problem_at c.in_ok-graph.graph.ordered.now) (length c.in_ok-graph.graph.ordered.now.order)
