-- The checker answers what a certificate shows.
use Rattle.std.proofs.Common.{ℕ, ◌≡◌, ◌∙◌, List, Option, Some, None, inl, inr, ap}
use Rattle.grouping_laws.specs.Problem.{Problem}
use Rattle.grouping_laws.specs.Grouping.{Grouping}
use Rattle.certificate_laws.specs.Certificate.{IsCertificate}
use Rattle.certificate_data.specs.TreeValue.{Certificate}
use Rattle.certificate_text.specs.Spelling.{IsSpelling}
use Rattle.checker_laws.specs.Fault.{Fault}
use Rattle.checker_laws.specs.Verdict as said
use Rattle.checker_laws.specs.TextVerdict.{IsTextVerdict}
use Rattle.checker_laws.proofs.TextVerdicts.{certified, one, apart}
use Rattle.certificate_checker.specs.Answers.{IsCheckAnswer, IsRefusal}
use Rattle.state_judge.specs.declared.fault.CheckFault.{CheckFault}
use Rattle.certificate_checker.specs.declared.verdict.Verdict.{Verdict}
use Rattle.certificate_checker.specs.declared.verdict.Verdict.TheVariants.{Best, Impossible, No, Budget}
use Rattle.certificate_checker.specs.CertificateAnswers.{SaysBest, SaysImpossible, CheckerAgrees}

module _ (p : Problem) (text : List ℕ) (c : Certificate) (spelling : IsSpelling text c) (is : IsCertificate p c.round c.tree) where
  -- the text has the verdict of this target
  only : (target : Option Grouping) (verdict : said.CertificateVerdict) → c.round.target ≡ target → IsTextVerdict p text verdict → verdict ≡ said.shown target
  only target verdict same v = one p text verdict (said.shown c.round.target) v (certified p text c spelling is) ∙ ap said.shown same

  -- so it is none that names a fault
  no_fault : (target : Option Grouping) (fault : Fault) (line : ℕ) → said.No fault line ≡ said.shown target → ⊥
  no_fault None fault line e = cc
  no_fault (Some g) fault line e = cc

  unrefused : (target : Option Grouping) (fault : CheckFault) (line : ℕ) → c.round.target ≡ target → IsRefusal p text fault line → ⊥
  unrefused target fault line same (inl h) = apart p text h.0 (said.shown c.round.target) h.2 (certified p text c spelling is)
  unrefused target fault line same (inr h) = no_fault target h.0 line (only target (said.No h.0 line) same h.2)

  says_best : (g : Grouping) (budget : ℕ) (verdict : Verdict) → c.round.target ≡ Some g → IsCheckAnswer p text budget verdict → SaysBest g verdict
  says_best g budget (Best target) same a =
      let e : said.Best target.groups.items ≡ said.Best g = only (Some g) (said.Best target.groups.items) same a in
      cc
  says_best g budget Impossible same a =
      let e : said.Impossible ≡ said.Best g = only (Some g) said.Impossible same a in
      cc
  says_best g budget (No fault line) same a = unrefused (Some g) fault line same a
  says_best g budget Budget same a = tt

  says_impossible : (budget : ℕ) (verdict : Verdict) → c.round.target ≡ None → IsCheckAnswer p text budget verdict → SaysImpossible verdict
  says_impossible budget (Best target) same a =
      let e : said.Best target.groups.items ≡ said.Impossible = only None (said.Best target.groups.items) same a in
      cc
  says_impossible budget Impossible same a = tt
  says_impossible budget (No fault line) same a = unrefused None fault line same a
  says_impossible budget Budget same a = tt

pub agrees : CheckerAgrees
agrees = record {
  best = λ p text c g budget verdict spelling is same a. says_best p text c spelling is g budget verdict same a;
  impossible = λ p text c budget verdict spelling is same a. says_impossible p text c spelling is budget verdict same a;
}
