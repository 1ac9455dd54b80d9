use Rattle.county_problem.specs.ProblemValue.{problem_of}
use Rattle.county_problem.specs.OrderedValue.{code_at}
use Rattle.certificate_data.specs.RoundValue.{round_of}
use Rattle.certificate_checker.proofs.KnownPlaces.{closables}
use Rattle.certificate_checker.proofs.known.told_branch.Goals as goal

pub returns-in-Some-3-clause-groups : goal.returns-in-Some-3-clause-groups
returns-in-Some-3-clause-groups g c =
    let input = c.args.input.now in
    let order = input.graph.now.ordered.now.order in
    let e = c.in_ok-branching.ensures in
    closables g.row.C.Denot g.C.CountySet.test order (problem_of input.graph.now.ordered.now.problem) c.requires.input.graph.order (round_of input.round.now) c.args.state.now c.requires.placed (code_at order c.in-Some-2.place) c.in-Some.size c.in-Some-3.branching.groups.items (rw c.in-Some-3.is at e.below) (rw c.in-Some-3.is at e.branch).1
