-- What the checker answers to the text of a certificate.
use Rattle.std.specs.Prelude.{ℕ, ◌≡◌, List, Some, None, ⊤}
use Rattle.grouping_laws.specs.Problem.{Problem}
use Rattle.grouping_laws.specs.Grouping.{Grouping}
use Rattle.certificate_laws.specs.Certificate.{IsCertificate}
use Rattle.certificate_data.specs.TreeValue.{Certificate}
use Rattle.certificate_text.specs.Spelling.{IsSpelling}
use Rattle.certificate_checker.specs.Answers.{IsCheckAnswer}
use Rattle.certificate_checker.specs.declared.verdict.Verdict.{Verdict}
use Rattle.certificate_checker.specs.declared.verdict.Verdict.TheVariants.{Best, Impossible, No, Budget}

-- a verdict says that the grouping is best, or that the budget is too small
abbrev pub SaysBest : Grouping → Verdict → Type 0
SaysBest g (Best target) = target.groups.items ≡ g
SaysBest g Impossible = ⊥
SaysBest g (No fault line) = ⊥
SaysBest g Budget = ⊤

-- a verdict says that no grouping is lawful, or that the budget is too small
abbrev pub SaysImpossible : Verdict → Type 0
SaysImpossible (Best target) = ⊥
SaysImpossible Impossible = ⊤
SaysImpossible (No fault line) = ⊥
SaysImpossible Budget = ⊤

-- What the checker answers to the text of a certificate: what the certificate shows, or that the budget is too small.
pub record CheckerAgrees : Type 0 where
  -- if the certificate has a target, the answer is that the target is best
  pub best : (p : Problem) (text : List ℕ) (c : Certificate) (g : Grouping) (budget : ℕ) (verdict : Verdict)
      → IsSpelling text c → IsCertificate p c.round c.tree → c.round.target ≡ Some g
      → IsCheckAnswer p text budget verdict → SaysBest g verdict
  -- if the certificate has no target, the answer is that no grouping is lawful
  pub impossible : (p : Problem) (text : List ℕ) (c : Certificate) (budget : ℕ) (verdict : Verdict) → IsSpelling text c
      → IsCertificate p c.round c.tree → c.round.target ≡ None → IsCheckAnswer p text budget verdict
      → SaysImpossible verdict
