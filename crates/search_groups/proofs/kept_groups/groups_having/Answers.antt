use Rattle.std.proofs.Common.{◌≡◌, subst}
use Rattle.grouping_laws.proofs.PlaceProblem.{order_once}
use Rattle.grouping_laws.specs.Sets.{contains}
use Rattle.county_problem.specs.ProblemValue.{problem_of}
use Rattle.county_problem.specs.OrderedValue.{code_at}
use Rattle.search_groups.proofs.KeptSteps.{having_told}
use Rattle.search_groups.proofs.kept_groups.groups_having.Goals as goal

pub returns-clause-those : goal.returns-clause-those
returns-clause-those g c =
    let C = g.row.C.Denot in
    let test = g.C.CountySet.test in
    let order = c.args.ordered.now.order in
    let once = order_once (problem_of c.args.ordered.now.problem) order c.places-places.ensures.order in
    let place = c.args.place in
    c.groups_passing.ensures.those (λ z. contains z (code_at order place)) (λ set answer low says. having_told C test order once set place c.requires.place answer (subst (λ z. answer ≡ test z place) says.shows says.says.met))
