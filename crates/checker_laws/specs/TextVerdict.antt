-- What is said of a text over a problem: its first fault, or the verdict of the certificate that it spells.
use Rattle.std.specs.Prelude.{ℕ, ◌≡◌, List, Some}
use Rattle.grouping_laws.specs.Problem.{Problem}
use Rattle.certificate_lines.specs.ItemReadings.{certificate_reading}
use Rattle.certificate_lines.specs.declared.fault.TextFault.{TextFault}
use Rattle.certificate_data.specs.TreeValue.{Certificate}
use Rattle.certificate_text.specs.Spelling.{IsSpelling}
use Rattle.checker_laws.specs.Verdict.{CertificateVerdict, IsVerdict}

-- the first fault of the text
abbrev pub HasTextFault : List ℕ → TextFault → Type 0
HasTextFault text fault = (certificate_reading text).fault ≡ Some fault

-- a text without a fault has the verdict of the certificate that it spells
abbrev pub IsTextVerdict : Problem → List ℕ → CertificateVerdict → Type 0
IsTextVerdict p text verdict = (c : Certificate) × IsSpelling text c × IsVerdict p c.round c.tree verdict
