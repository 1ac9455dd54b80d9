use Rattle.county_problem.proofs.BuildLemmas.{few_sets}
use Rattle.county_problem.proofs.problem.Problem.build_with.Goals as goal

pub with_totals-requires-clause-sets : goal.with_totals-requires-clause-sets
with_totals-requires-clause-sets c = few_sets c.deref.result.now c.args.withdrawn.now c.args.chamber c.in_ok-totals.totals.1 c.in_ok-totals.ensures.seats.0 c.in_ok-totals.ensures.seats.1
