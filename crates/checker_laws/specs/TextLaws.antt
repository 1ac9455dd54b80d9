-- Laws of the faults, the verdict and the cost of a text.
use Rattle.std.specs.Prelude.{ℕ, ◌+◌, ◌*◌, ◌≡◌, ◌≢◌, ◌≤◌, List, length, Some, None, ◌⊎◌}
use Rattle.grouping_laws.specs.Problem.{Problem}
use Rattle.grouping_laws.specs.Grouping.{Grouping, IsBest, IsImpossible}
use Rattle.certificate_laws.specs.Certificate.{IsCertificate}
use Rattle.certificate_lines.specs.ItemReadings.{certificate_reading}
use Rattle.certificate_lines.specs.declared.fault.TextKind.TheVariants.{ReadFault, Memory}
use Rattle.certificate_lines.specs.declared.fault.TextFault.{TextFault}
use Rattle.certificate_data.specs.TreeValue.{Certificate}
use Rattle.certificate_text.specs.Trees.{items_of_certificate}
use Rattle.certificate_text.specs.Spelling.{IsSpelling}
use Rattle.checker_laws.specs.Fault.{Fault}
use Rattle.checker_laws.specs.Lines.{certificate_lines}
use Rattle.checker_laws.specs.Verdict.{CertificateVerdict, Best, Impossible, No, shown}
use Rattle.checker_laws.specs.TextVerdict.{HasTextFault, IsTextVerdict}
use Rattle.checker_laws.specs.TextCost.{line_feeds, TextCosts}

-- A text either spells a certificate or has a fault.
pub record TextsSpell : Type 0 where
  -- a text without a fault spells a certificate, whose items are those of the text
  pub spelled : (text : List ℕ) → (certificate_reading text).fault ≡ None
      → (c : Certificate) × IsSpelling text c × ((certificate_reading text).items ≡ items_of_certificate c)
  -- a text that spells a certificate has its items, and no fault
  pub spelling : (text : List ℕ) (c : Certificate) → IsSpelling text c
      → ((certificate_reading text).items ≡ items_of_certificate c) × ((certificate_reading text).fault ≡ None)
  -- a text spells a certificate or has a fault, and never both
  pub either : (text : List ℕ)
      → ((c : Certificate) × IsSpelling text c) ⊎ ((fault : TextFault) × HasTextFault text fault)
  pub apart : (text : List ℕ) (fault : TextFault) (c : Certificate) → HasTextFault text fault → IsSpelling text c → ⊥
  -- the lines of a text alone decide its fault, and no memory that was refused or source that could not be read
  pub faults : (text : List ℕ) (fault : TextFault) → HasTextFault text fault
      → (fault.kind ≢ Memory) × (fault.kind ≢ ReadFault)
  -- the fault stands on the line behind the lines of the items
  pub fault_line : (text : List ℕ) (fault : TextFault) → HasTextFault text fault
      → fault.line ≡ 1 + length (certificate_reading text).items
  -- an item is read from a line that an LF ends
  pub lines : (text : List ℕ) → length (certificate_reading text).items ≤ line_feeds text
  -- a text that spells a certificate has an LF for each item, and an item for each line of the certificate
  pub all_lines : (text : List ℕ) (c : Certificate) → IsSpelling text c
      → (line_feeds text ≡ length (items_of_certificate c))
      × (length (items_of_certificate c) ≡ certificate_lines c.round c.tree)

-- What the verdict of a text shows.
pub record TextVerdictsShow : Type 0 where
  pub best : (p : Problem) (text : List ℕ) (target : Grouping) → IsTextVerdict p text (Best target)
      → IsBest p target × ((c : Certificate) × IsSpelling text c × IsCertificate p c.round c.tree
      × (c.round.target ≡ Some target))
  pub impossible : (p : Problem) (text : List ℕ) → IsTextVerdict p text Impossible
      → IsImpossible p × ((c : Certificate) × IsSpelling text c × IsCertificate p c.round c.tree
      × (c.round.target ≡ None))
  pub no : (p : Problem) (text : List ℕ) (fault : Fault) (line : ℕ) → IsTextVerdict p text (No fault line)
      → (c : Certificate) → IsSpelling text c → ¬ IsCertificate p c.round c.tree
  -- the text of a certificate has the verdict of its target
  pub certified : (p : Problem) (text : List ℕ) (c : Certificate) → IsSpelling text c → IsCertificate p c.round c.tree
      → IsTextVerdict p text (shown c.round.target)
  -- there is one verdict: two are the same, it can't be that a text that spells a certificate has none, and a text with
  -- a fault has none
  pub one : (p : Problem) (text : List ℕ) (x y : CertificateVerdict) → IsTextVerdict p text x → IsTextVerdict p text y
      → x ≡ y
  pub some : (p : Problem) (text : List ℕ) (c : Certificate) → IsSpelling text c
      → ((x : CertificateVerdict) → ¬ IsTextVerdict p text x) → ⊥
  pub apart : (p : Problem) (text : List ℕ) (fault : TextFault) (x : CertificateVerdict) → HasTextFault text fault
      → IsTextVerdict p text x → ⊥

-- There is one cost: two are the same, and it can't be that there is none. It counts each line of the text.
pub record TextCostsAreOne : Type 0 where
  pub one : (p : Problem) (text : List ℕ) (m n : ℕ) → TextCosts p text m → TextCosts p text n → m ≡ n
  pub some : (p : Problem) (text : List ℕ) → ((cost : ℕ) → ¬ TextCosts p text cost) → ⊥
  pub lines : (p : Problem) (text : List ℕ) (cost : ℕ) → TextCosts p text cost → 3 * (1 + line_feeds text) ≤ cost
