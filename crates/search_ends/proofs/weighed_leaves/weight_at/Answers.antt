use Rattle.std.proofs.Common.{◌∙◌, ap, get_or, sym}
use Rattle.grouping_laws.proofs.PlaceProblem.{order_once}
use Rattle.county_problem.specs.ProblemValue.{problem_of}
use Rattle.search_ends.proofs.PlacedWeights.{placed_at, placed_nowhere}
use Rattle.search_ends.proofs.weighed_leaves.weight_at.Goals as goal

pub returns-in-Some-clause-value : goal.returns-in-Some-clause-value
returns-in-Some-clause-value c =
    let order = c.args.ordered.now.order in
    let table = c.args.table.now in
    let at = c.in-Some.ensures in
    ap (λ k. get_or table k 0) c.from.ensures
    ∙ sym (placed_at order table (order_once (problem_of c.args.ordered.now.problem) order c.places-places.ensures.order) c.in-Some.place c.args.code at.0 at.1)

pub returns-in-None-clause-value : goal.returns-in-None-clause-value
returns-in-None-clause-value c = sym (placed_nowhere c.args.ordered.now.order c.args.table.now c.args.code c.in-None.ensures)
