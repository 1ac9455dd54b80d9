use Rattle.std.proofs.Common.{◌≡◌, true, not, subst}
use Rattle.std.proofs.lemmas.Result.{IfOk-weaker}
use Rattle.grouping_laws.proofs.PlaceProblem.{order_once}
use Rattle.grouping_laws.specs.Sets.{contains}
use Rattle.county_problem.specs.ProblemValue.{problem_of}
use Rattle.county_problem.specs.OrderedValue.{code_at}
use Rattle.state_groups.specs.PlacedValues.{codes_of_sets}
use Rattle.search_groups.specs.KnownGroups.{AreThose, Lacks}
use Rattle.search_groups.proofs.KeptSteps.{lacking_told, not_true, true_not, those_as}
use Rattle.search_groups.proofs.kept_groups.groups_lacking.Goals as goal

pub returns-clause-those : goal.returns-clause-those
returns-clause-those g c =
    let C = g.row.C.Denot in
    let test = g.C.CountySet.test in
    let order = c.args.ordered.now.order in
    let once = order_once (problem_of c.args.ordered.now.problem) order c.places-places.ensures.order in
    let place = c.args.place in
    let code = code_at order place in
    let groups = codes_of_sets order test c.args.groups.now in
    IfOk-weaker c.groups_passing.result
    (λ v. AreThose order (λ z. not (contains z code) ≡ true) groups (codes_of_sets order test v.items))
    (λ v. AreThose order (Lacks code) groups (codes_of_sets order test v.items))
    (λ v are. those_as order (λ z. not (contains z code) ≡ true) (Lacks code) groups (codes_of_sets order test v.items) (λ z. (not_true (contains z code), true_not (contains z code))) are)
    (c.groups_passing.ensures.those (λ z. not (contains z code)) (λ set answer low says. lacking_told C test order once set place c.requires.place answer (subst (λ z. not answer ≡ test z place) says.shows says.says.met)))
