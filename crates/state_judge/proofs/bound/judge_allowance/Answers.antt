use Rattle.std.proofs.Common.{refl, inr, arith}
use Rattle.checker_laws.specs.Fault.{BoundOver}
use Rattle.state_judge.proofs.bound.judge_allowance.Goals as goal

pub returns-then-all-wanted-clause-line : goal.returns-then-all-wanted-clause-line
returns-then-all-wanted-clause-line g c counts is =
    let fair = c.in_ok-allowance.ensures.line in
    (BoundOver, refl, inr (inr (refl, fair.0, omega (arith, fair.1, c.closed_of_size.ensures.value, c.from-wanted.ensures, is, c.if-all-wanted.true))))

pub returns-then-all-wanted-2-clause-line : goal.returns-then-all-wanted-2-clause-line
returns-then-all-wanted-2-clause-line g c counts is =
    let fair = c.in_ok-allowance.ensures.line in
    (fair.0, omega (arith, fair.1, c.closed_of_size.ensures.value, c.from-wanted.ensures, is))
