-- What the judging of a text costs.
use Rattle.std.specs.Prelude.{ℕ, ◌+◌, ◌*◌, ◌≡◌, List, ◌⊎◌}
use Rattle.std.specs.List.{count_by}
use Rattle.field_lines.specs.RawPieces.{is_lf}
use Rattle.grouping_laws.specs.Problem.{Problem}
use Rattle.certificate_lines.specs.declared.fault.TextFault.{TextFault}
use Rattle.certificate_data.specs.TreeValue.{Certificate}
use Rattle.certificate_text.specs.Spelling.{IsSpelling}
use Rattle.checker_laws.specs.Cost.{CertificateCosts}
use Rattle.checker_laws.specs.TextVerdict.{HasTextFault}

-- how many LFs a text has
abbrev pub line_feeds : List ℕ → ℕ
line_feeds text = count_by is_lf text

-- 3 for each line of a text with a fault, which has one line more than LFs; else what its certificate costs
abbrev pub TextCosts : Problem → List ℕ → ℕ → Type 0
TextCosts p text cost =
    ((c : Certificate) × IsSpelling text c × CertificateCosts p c.round c.tree cost)
    ⊎ ((fault : TextFault) × HasTextFault text fault × (cost ≡ 3 * (1 + line_feeds text)))
