use Rattle.std.proofs.Common.{sym, subst, arith, ◌≡◌}
use Rattle.county_problem.specs.OrderedValue.{code_at}
use Rattle.certificate_data.specs.RoundValue.{round_of}
use Rattle.certificate_laws.specs.Proving.{CanBranch}
use Rattle.state_groups.specs.PlacedValues.{state_at}
use Rattle.certificate_checker.proofs.known.raised_known.Goals as goal

pub raised_position-requires-clause-can : goal.raised_position-requires-clause-can
raised_position-requires-clause-can g c =
    let input = c.args.input.now in
    let order = input.graph.now.ordered.now.order in
    let code = code_at order c.args.place in
    let s = state_at order g.C.CountySet.test c.args.state.now in
    let known = rw c.in-Some.is at c.requires.known in
    let size : c.args.limit ≡ c.in-Some.position.size = omega (arith, c.if-position-limit.false) in
    subst (λ z. CanBranch (round_of input.round.now) z code c.in-Some.position.size) (sym known.1.is) (subst (CanBranch (round_of input.round.now) s code) size c.requires.can)
