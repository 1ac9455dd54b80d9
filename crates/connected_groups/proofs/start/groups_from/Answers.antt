use Rattle.std.proofs.Common.{◌<◌, true, refl, sym, subst, length, IfOk}
use Rattle.std.proofs.lemmas.Result.{IfOk-from_err}
use Rattle.grouping_laws.specs.GroupsFrom.{AreGroupsFrom}
use Rattle.county_problem.specs.ProblemValue.{problem_of}
use Rattle.county_problem.specs.OrderedValue.{OrderedValue, code_at}
use Rattle.connected_laws.specs.Listing.{AreBelow}
use Rattle.connected_groups.specs.Search.{StepsAreSets, codes_of_groups}
use Rattle.connected_sets.proofs.Failing.{refused_not_stopped}
use Rattle.connected_groups.proofs.start.groups_from.Goals as goal

pub returns-in_err-graph-in_default-clause-groups : goal.returns-in_err-graph-in_default-clause-groups
returns-in_err-graph-in_default-clause-groups g c = IfOk-from_err c.from_residual.result _ c.from_residual.ensures.0

pub returns-in_err-graph-in_default-clause-below : goal.returns-in_err-graph-in_default-clause-below
returns-in_err-graph-in_default-clause-below g c = IfOk-from_err c.from_residual.result _ c.from_residual.ensures.0

pub returns-in_err-graph-in_default-clause-counted : goal.returns-in_err-graph-in_default-clause-counted
returns-in_err-graph-in_default-clause-counted g c = IfOk-from_err c.from_residual.result _ c.from_residual.ensures.0

pub returns-in_err-graph-in_default-clause-limit : goal.returns-in_err-graph-in_default-clause-limit
returns-in_err-graph-in_default-clause-limit g c = refl

pub returns-in_err-graph-in_default-clause-stopped : goal.returns-in_err-graph-in_default-clause-stopped
returns-in_err-graph-in_default-clause-stopped g c = refused_not_stopped c.from_residual.result c.from_residual.ensures.1

pub returns-in_ok-graph-in_default-clause-groups : goal.returns-in_ok-graph-in_default-clause-groups
returns-in_ok-graph-in_default-clause-groups g c =
    let test = g.C.CountySet.test in
    subst (λ (v : OrderedValue). IfOk c.groups_over.result (λ list. AreGroupsFrom (problem_of v.problem) v.order c.args.limit (code_at v.order c.args.place) (λ x. true) (codes_of_groups v.order test list.groups.items))) c.in_ok-graph-in_default.ensures.ordered c.groups_over.ensures.groups

pub returns-in_ok-graph-in_default-clause-below : goal.returns-in_ok-graph-in_default-clause-below
returns-in_ok-graph-in_default-clause-below g c =
    let test = g.C.CountySet.test in
    subst (λ (v : OrderedValue). IfOk c.groups_over.result (λ list. AreBelow (length v.order) test list.groups.items)) c.in_ok-graph-in_default.ensures.ordered c.groups_over.ensures.below

pub returns-in_ok-graph-in_default-clause-steps : goal.returns-in_ok-graph-in_default-clause-steps
returns-in_ok-graph-in_default-clause-steps g c =
    let test = g.C.CountySet.test in
    subst (λ (v : OrderedValue). StepsAreSets (problem_of v.problem) v.order c.args.limit (code_at v.order c.args.place) c.args.steps.now.used c.groups_over.new.steps.used) c.in_ok-graph-in_default.ensures.ordered c.groups_over.ensures.steps

pub returns-in_ok-graph-in_default-clause-counted : goal.returns-in_ok-graph-in_default-clause-counted
returns-in_ok-graph-in_default-clause-counted g c = c.groups_over.ensures.counted

pub returns-in_ok-graph-in_default-clause-limit : goal.returns-in_ok-graph-in_default-clause-limit
returns-in_ok-graph-in_default-clause-limit g c = c.groups_over.ensures.limit

pub returns-in_ok-graph-in_default-clause-stopped : goal.returns-in_ok-graph-in_default-clause-stopped
returns-in_ok-graph-in_default-clause-stopped g c = c.groups_over.ensures.stopped

pub returns-in_ok-graph-in_default-clause-error : goal.returns-in_ok-graph-in_default-clause-error
returns-in_ok-graph-in_default-clause-error g c = c.groups_over.ensures.error

pub groups_over-requires-clause-place : goal.groups_over-requires-clause-place
groups_over-requires-clause-place g c = subst (λ (v : OrderedValue). c.args.place < length v.order) (sym c.in_ok-graph-in_default.ensures.ordered) c.requires.place
