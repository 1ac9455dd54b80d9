-- What the verdict of a text shows.
use Rattle.std.proofs.Common.{◌≡◌, ℕ, List, Some, None, subst}
use Rattle.grouping_laws.specs.Problem.{Problem}
use Rattle.grouping_laws.specs.Grouping.{Grouping, IsBest, IsImpossible}
use Rattle.certificate_laws.specs.Certificate.{IsCertificate}
use Rattle.certificate_lines.specs.declared.fault.TextFault.{TextFault}
use Rattle.certificate_data.specs.TreeValue.{Certificate}
use Rattle.certificate_text.specs.Spelling.{IsSpelling}
use Rattle.certificate_text.proofs.OneSpelling.{one_value}
use Rattle.checker_laws.specs.Fault.{Fault}
use Rattle.checker_laws.specs.Verdict.{CertificateVerdict, Best, Impossible, No, shown, IsVerdict}
use Rattle.checker_laws.proofs.Verdicts.{verdicts_show}
use Rattle.checker_laws.specs.TextVerdict.{HasTextFault, IsTextVerdict}
use Rattle.checker_laws.specs.TextLaws.{TextVerdictsShow}
use Rattle.checker_laws.proofs.Spelling as spelling
use Rattle.checker_laws.proofs.SomeVerdict.{some_verdict}

pub best : (p : Problem) (text : List ℕ) (target : Grouping) → IsTextVerdict p text (Best target) → IsBest p target × ((c : Certificate) × IsSpelling text c × IsCertificate p c.round c.tree × (c.round.target ≡ Some target))
best p text target v =
    let shows = verdicts_show.best p v.0.round v.0.tree target v.2 in
    (shows.2, (v.0, v.1, shows.0, shows.1))

pub impossible : (p : Problem) (text : List ℕ) → IsTextVerdict p text Impossible → IsImpossible p × ((c : Certificate) × IsSpelling text c × IsCertificate p c.round c.tree × (c.round.target ≡ None))
impossible p text v =
    let shows = verdicts_show.impossible p v.0.round v.0.tree v.2 in
    (shows.2, (v.0, v.1, shows.0, shows.1))

pub refused : (p : Problem) (text : List ℕ) (fault : Fault) (line : ℕ) → IsTextVerdict p text (No fault line) → (c : Certificate) → IsSpelling text c → ¬ IsCertificate p c.round c.tree
refused p text fault line v c s = subst (λ (d : Certificate). ¬ IsCertificate p d.round d.tree) (one_value text v.0 c v.1 s) (verdicts_show.no p v.0.round v.0.tree fault line v.2)

pub certified : (p : Problem) (text : List ℕ) (c : Certificate) → IsSpelling text c → IsCertificate p c.round c.tree → IsTextVerdict p text (shown c.round.target)
certified p text c s is = (c, s, verdicts_show.yes p c.round c.tree is)

pub one : (p : Problem) (text : List ℕ) (x y : CertificateVerdict) → IsTextVerdict p text x → IsTextVerdict p text y → x ≡ y
one p text x y v w =
    let same = subst (λ (d : Certificate). IsVerdict p d.round d.tree x) (one_value text v.0 w.0 v.1 w.1) v.2 in
    verdicts_show.one p w.0.round w.0.tree x y same w.2

pub some : (p : Problem) (text : List ℕ) (c : Certificate) → IsSpelling text c → ((x : CertificateVerdict) → ¬ IsTextVerdict p text x) → ⊥
some p text c is none = some_verdict p text c is (λ v. none v.0 v.1)

pub apart : (p : Problem) (text : List ℕ) (fault : TextFault) (x : CertificateVerdict) → HasTextFault text fault → IsTextVerdict p text x → ⊥
apart p text fault x h v = spelling.apart text fault v.0 h v.1

pub text_verdicts_show : TextVerdictsShow
text_verdicts_show = record { best = best; impossible = impossible; no = refused; certified = certified; one = one; some = some; apart = apart }
