use Rattle.std.proofs.Common.{length, refl, sym, ◌∙◌}
use Rattle.county_problem.specs.ProblemValue.{problem_of}
use Rattle.grouping_laws.specs.Places.{places_below}
use Rattle.county_problem.specs.OrderedValue.{problem_at, code_at}
use Rattle.certificate_data.specs.Round.{Round}
use Rattle.certificate_data.specs.RoundValue.{round_of}
use Rattle.certificate_laws.specs.State.{open_to}
use Rattle.state_groups.specs.StateValue.{state_of}
use Rattle.state_judge.proofs.TurnLemmas.{open_at}
use Rattle.state_judge.proofs.GroupLemmas.{groups_codes, groups_closable}
use Rattle.branch_bound.proofs.plain_search.plain_groups.Goals as goal

pub groups_at-requires-clause-there : goal.groups_at-requires-clause-there
groups_at-requires-clause-there g c =
    let input = c.args.input.now in
    let order = input.graph.now.ordered.now.order in
    let t = state_of g.C.CountySet.test c.args.state.now in
    let limit = input.round.now.limit in
    sym (open_at (problem_of input.graph.now.ordered.now.problem) order c.requires.input.graph.order t c.requires.at.placed.rest limit (open_to t limit) (λ x. refl) c.args.place (code_at order c.args.place) c.requires.place refl) ∙ c.requires.can.is_open

pub returns-in-Ok-clause-groups : goal.returns-in-Ok-clause-groups
returns-in-Ok-clause-groups g c =
    let test = g.C.CountySet.test in
    let input = c.args.input.now in
    let order = input.graph.now.ordered.now.order in
    groups_codes g.row.C.Denot test (problem_of input.graph.now.ordered.now.problem) (round_of input.round.now) order (state_of test c.args.state.now) c.args.place input.round.now.limit c.in-Ok.groups.items c.requires.input.order c.requires.input.graph.order c.requires.at.placed.rest c.requires.place c.in-Ok.ensures.groups (code_at order c.args.place) input.round.now.limit refl refl

pub returns-in-Ok-clause-closable : goal.returns-in-Ok-clause-closable
returns-in-Ok-clause-closable g c =
    let input = c.args.input.now in
    let n = length input.graph.now.ordered.now.order in
    let round : Round = record (round_of input.round.now) { order = places_below n } in
    groups_closable g.row.C.Denot g.C.CountySet.test (problem_at input.graph.now.ordered.now) n round c.args.state.now c.args.place input.round.now.limit c.in-Ok.groups.items (c.in-Ok.ensures.groups round refl refl) c.in-Ok.ensures.below
