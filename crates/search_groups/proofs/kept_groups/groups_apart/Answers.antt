use Rattle.std.proofs.Common.{◌≡◌, true, not, subst}
use Rattle.std.proofs.lemmas.Result.{IfOk-weaker}
use Rattle.place_sets.specs.PlaceSets.{Meets}
use Rattle.grouping_laws.proofs.PlaceProblem.{order_once}
use Rattle.county_problem.specs.ProblemValue.{problem_of}
use Rattle.state_groups.specs.PlacedValues.{codes_of_set, codes_of_sets}
use Rattle.search_groups.specs.KnownGroups.{AreThose, IsApart}
use Rattle.search_groups.proofs.KeptSteps.{has_none, apart_none, none_apart, apart_told, those_as}
use Rattle.search_groups.proofs.kept_groups.groups_apart.Goals as goal

pub returns-clause-those : goal.returns-clause-those
returns-clause-those g c =
    let C = g.row.C.Denot in
    let test = g.C.CountySet.test in
    let order = c.args.ordered.now.order in
    let once = order_once (problem_of c.args.ordered.now.problem) order c.places-places.ensures.order in
    let other = c.args.other.now in
    let k = codes_of_set order test other in
    let groups = codes_of_sets order test c.args.groups.now in
    IfOk-weaker c.groups_passing.result
    (λ v. AreThose order (λ z. has_none k z ≡ true) groups (codes_of_sets order test v.items))
    (λ v. AreThose order (IsApart k) groups (codes_of_sets order test v.items))
    (λ v are. those_as order (λ z. has_none k z ≡ true) (IsApart k) groups (codes_of_sets order test v.items) (λ z. (apart_none k z, none_apart k z)) are)
    (c.groups_passing.ensures.those (has_none k) (λ set answer low says. apart_told C test order once set other low answer (subst (λ z. Meets (test z) (test other) (not answer)) says.shows says.says.met)))
