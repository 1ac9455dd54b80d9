use Rattle.std.proofs.Common.{◌≡◌, ℕ, ◌+◌, ◌≤◌, subst, sym}
use Rattle.county_problem.specs.ProblemValue.{problem_of}
use Rattle.certificate_data.specs.RoundValue.{round_of}
use Rattle.certificate_laws.specs.Groups.{IsSetWithin}
use Rattle.certificate_laws.specs.BoundLines.{allowance, IsFair}
use Rattle.certificate_data.specs.TreeValue.{allowance_of}
use Rattle.certificate_data.specs.declared.allowance.Allowance.{Allowance}
use Rattle.checker_laws.specs.Cost.{IsSetCount, LineLooks}
use Rattle.state_groups.specs.PlacedValues.{state_at}
use Rattle.state_judge.proofs.Allowances.{weighed}
use Rattle.state_judge.proofs.bound.fair_allowance.Goals as goal

pub returns-in_ok-weight-in-Weigh-clause-line : goal.returns-in_ok-weight-in-Weigh-clause-line
returns-in_ok-weight-in-Weigh-clause-line g c =
    let p = problem_of c.args.graph.now.ordered.now.problem in
    let s = state_at c.args.graph.now.ordered.now.order g.C.CountySet.test c.args.state.now in
    let format = c.args.round.now.format in
    subst (λ (z : Allowance). IsFair format p s c.args.size (allowance_of z) × (c.shared.result ≡ allowance p s c.args.size c.args.used (allowance_of z))) (sym c.in-Weigh.is)
    (weighed format p s c.args.size c.args.used c.in-Weigh.quota c.as_slice.result.now c.in-Weigh.weights c.in_ok-most.field-0 c.from.result c.in_ok-weight-in-Weigh.weight c.shared.result c.as_slice.ensures c.in_ok-most.ensures.value c.from.ensures c.in_ok-weight-in-Weigh.ensures.weights c.shared.ensures)

pub returns-in_ok-weight-in-Weigh-clause-steps : goal.returns-in_ok-weight-in-Weigh-clause-steps
returns-in_ok-weight-in-Weigh-clause-steps g c =
    let p = problem_of c.args.graph.now.ordered.now.problem in
    let s = state_at c.args.graph.now.ordered.now.order g.C.CountySet.test c.args.state.now in
    subst (λ (z : Allowance). (m : ℕ) → LineLooks (allowance_of z) p (round_of c.args.round.now) s c.args.size m → c.judge_weights.new.steps.used ≤ c.args.steps.now.used + m) (sym c.in-Weigh.is)
    (λ m h. c.judge_weights.ensures.steps m (subst (λ z. IsSetCount z (IsSetWithin p z s c.args.size) m) (sym c.requires.order) h))
