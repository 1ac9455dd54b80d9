use Rattle.std.proofs.Common.{length, refl, sym, ap, ◌∙◌, arith, subst, Err}
use Rattle.std.proofs.lemmas.Result.{err_from_is_err_and}
use Rattle.county_problem.specs.ProblemValue.{problem_of}
use Rattle.grouping_laws.specs.Places.{places_below}
use Rattle.county_problem.specs.OrderedValue.{problem_at}
use Rattle.certificate_data.specs.Round.{Round}
use Rattle.certificate_data.specs.RoundValue.{round_of}
use Rattle.certificate_laws.specs.State.{open_to}
use Rattle.state_groups.specs.StateValue.{state_of}
use Rattle.certificate_laws.specs.Proving.{limit_of, CanBranch}
use Rattle.state_groups.specs.PlacedValues.{state_at}
use Rattle.state_judge.proofs.TurnLemmas.{open_at}
use Rattle.state_judge.proofs.GroupLemmas.{steps_within, only_steps, groups_codes, groups_closable}
use Rattle.state_judge.proofs.branch.judge_branch.Goals as goal

pub groups_at-requires-clause-there : goal.groups_at-requires-clause-there
groups_at-requires-clause-there g c =
    let t = state_of g.C.CountySet.test c.args.state.now in
    let at = c.in_ok-place.ensures.place in
    let limit = c.in-Some.limit in
    sym (open_at (problem_of c.args.graph.now.ordered.now.problem) c.args.graph.now.ordered.now.order c.requires.graph.order t c.requires.placed.rest limit (open_to t limit) (λ x. refl) c.in_ok-place.place c.args.county at.0 at.1) ∙ c.in_ok-place.ensures.branch.is_open

pub returns-in_err-groups-clause-stopped : goal.returns-in_err-groups-clause-stopped
returns-in_err-groups-clause-stopped g c e =
    let t = state_of g.C.CountySet.test c.args.state.now in
    let at = c.in_ok-place.ensures.place in
    let p = problem_of c.args.graph.now.ordered.now.problem in
    let order = c.args.graph.now.ordered.now.order in
    let err = err_from_is_err_and c.from_residual-in_err-groups.result c.from_residual-in_err-groups.ensures.1 in
    let stop = only_steps c.from_residual-in_err-groups.result c.in_err-groups.field-0.0 err.0 err.1 err.2 e in (
      c.in-Some.ensures.0,
      subst (CanBranch (round_of c.args.round.now) (state_at order g.C.CountySet.test c.args.state.now) c.args.county) c.in-Some.ensures.1 c.in_ok-place.ensures.branch,
      λ m many.
          let few = steps_within p order c.requires.graph.order t c.requires.placed.rest c.in_ok-place.place c.in-Some.limit at.0 c.args.county (limit_of (round_of c.args.round.now) c.args.limit) at.1 c.in-Some.ensures.1 c.args.steps.now.used c.groups_at.new.steps.used m c.in_err-groups.ensures.steps many in
          omega (arith, few, c.in_err-groups.ensures.limit, c.in_err-groups.ensures.stopped (ap Err stop)),
    )

pub returns-clause-branch : goal.returns-clause-branch
returns-clause-branch g c =
    let test = g.C.CountySet.test in
    let t = state_of test c.args.state.now in
    let at = c.in_ok-place.ensures.place in
    let p = problem_of c.args.graph.now.ordered.now.problem in
    let order = c.args.graph.now.ordered.now.order in
    let round = round_of c.args.round.now in (
      c.in-Some.ensures.0,
      subst (CanBranch round (state_at order test c.args.state.now) c.args.county) c.in-Some.ensures.1 c.in_ok-place.ensures.branch,
      groups_codes g.row.C.Denot test p round order t c.in_ok-place.place c.in-Some.limit c.in_ok-groups.groups.items c.requires.order c.requires.graph.order c.requires.placed.rest at.0 c.in_ok-groups.ensures.groups c.args.county (limit_of round c.args.limit) at.1 c.in-Some.ensures.1,
    )

pub returns-clause-groups : goal.returns-clause-groups
returns-clause-groups g c =
    let n = length c.args.graph.now.ordered.now.order in
    let round : Round = record (round_of c.args.round.now) { order = places_below n } in
    groups_closable g.row.C.Denot g.C.CountySet.test (problem_at c.args.graph.now.ordered.now) n round c.args.state.now c.in_ok-place.place c.in-Some.limit c.in_ok-groups.groups.items (c.in_ok-groups.ensures.groups round refl refl) c.in_ok-groups.ensures.below

pub returns-clause-steps : goal.returns-clause-steps
returns-clause-steps g c = λ m many.
    let t = state_of g.C.CountySet.test c.args.state.now in
    let at = c.in_ok-place.ensures.place in
    let few = steps_within (problem_of c.args.graph.now.ordered.now.problem) c.args.graph.now.ordered.now.order c.requires.graph.order t c.requires.placed.rest c.in_ok-place.place c.in-Some.limit at.0 c.args.county (limit_of (round_of c.args.round.now) c.args.limit) at.1 c.in-Some.ensures.1 c.args.steps.now.used c.groups_at.new.steps.used m c.in_ok-groups.ensures.steps many in
    omega (arith, few)
