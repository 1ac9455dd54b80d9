use Rattle.std.proofs.Common.{◌+◌, nat_lt, length, refl, sym, ◌∙◌, ap}
use Rattle.std.specs.List.{list_any}
use Rattle.checker_laws.specs.Fault.{LimitTooSmall}
use Rattle.certificate_checker.proofs.Targets.{limit_fault}
use Rattle.certificate_checker.proofs.certificate.judge_limit.Goals as goal

pub returns-then-has_larger : goal.returns-then-has_larger
returns-then-has_larger c = (
  LimitTooSmall,
  refl,
  limit_fault c.args.round.now.limit c.args.round.now.target c.in-Some.target c.in-Some.is
      (ap (list_any (λ s. nat_lt c.args.round.now.limit (length s.codes))) (sym c.deref.ensures.value) ∙ sym c.has_larger.ensures ∙ c.if-has_larger.true),
  ap (λ n. n + 2) c.tolerance_line.ensures,
)
