use Rattle.std.proofs.Common.{Ok, refl, sym, subst}
use Rattle.certificate_checker.specs.TreeAnswers.{IsSaid}
use Rattle.certificate_checker.specs.declared.verdict.TreeVerdict.TheVariants.{Proof}
use Rattle.certificate_checker.proofs.tree_checking.said_of.Goals as goal

pub returns-in-Ok : goal.returns-in-Ok
returns-in-Ok c = subst (λ z. IsSaid z (Ok Proof)) (sym c.in-Ok.is) refl
