use Rattle.std.proofs.Common.{length, map, sym, ap, ◌∙◌, arith}
use Rattle.county_problem.specs.ProblemValue.{problem_of}
use Rattle.certificate_data.specs.Tree.{weigh}
use Rattle.certificate_data.specs.TreeValue.{allowance_of, weight_of}
use Rattle.state_groups.specs.PlacedValues.{state_at}
use Rattle.certificate_checker.proofs.KnownPlaces.{no_items, is_zero, empty_loss, empty_even}
use Rattle.certificate_checker.proofs.known.empty_line.Goals as goal

pub returns-then-closed-from-2 : goal.returns-then-closed-from-2
returns-then-closed-from-2 g c counts e =
    let input = c.args.input.now in
    let order = input.graph.now.ordered.now.order in
    let s = state_at order g.C.CountySet.test c.args.state.now in
    let line = ap allowance_of c.in-Weigh.is ∙ ap (λ l. weigh c.in-Weigh.quota (map weight_of l)) (sym c.as_slice.ensures ∙ no_items c.as_slice.result.now (is_zero (length c.as_slice.result.now) c.if-not-is_empty.ensures)) in
    empty_loss input.round.now.format (problem_of input.graph.now.ordered.now.problem) s counts c.args.size c.args.used c.in-Weigh.quota (allowance_of c.args.line.now) line (omega (arith, c.if-quota-eq0.false)) c.requires.none (omega (arith, e, c.closed_of_size-closed.ensures.value, c.if-closed-from-2.true))

pub returns : goal.returns
returns g c counts e =
    let input = c.args.input.now in
    let order = input.graph.now.ordered.now.order in
    let s = state_at order g.C.CountySet.test c.args.state.now in
    let line = ap allowance_of c.in-Weigh.is ∙ ap (λ l. weigh c.in-Weigh.quota (map weight_of l)) (sym c.as_slice.ensures ∙ no_items c.as_slice.result.now (is_zero (length c.as_slice.result.now) c.if-not-is_empty.ensures)) in
    empty_even input.round.now.format (problem_of input.graph.now.ordered.now.problem) s counts c.args.size c.args.used c.in-Weigh.quota (allowance_of c.args.line.now) line (omega (arith, c.if-quota-eq0.false)) c.requires.none (omega (arith, e, c.closed_of_size-closed.ensures.value, c.if-closed-from.false, c.if-closed-from-2.false)) c.requires.used
