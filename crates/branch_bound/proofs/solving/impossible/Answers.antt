use Rattle.std.proofs.Common.{arith}
use Rattle.county_problem.specs.ProblemValue.{problem_of}
use Rattle.branch_bound.proofs.Rounds.{impossible_certified}
use Rattle.branch_bound.proofs.solving.impossible.Goals as goal

pub returns : goal.returns
returns c =
    let ordered = c.args.ordered.now in
    impossible_certified (problem_of ordered.problem) ordered.order c.args.round c.new-branches.result c.args.leaf c.places-places.ensures.order (omega (arith, c.places-places.ensures.value, c.places-places.ensures.few)) c.requires.value c.requires.codes c.requires.range c.new-branches.ensures.items c.requires.leaf
