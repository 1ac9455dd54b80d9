-- Where the bytes of a label stand.
use Rattle.std.specs.Prelude.{ℕ, ◌≤◌, List, take}
use Rattle.baf_auditor.specs.declared.label.Bytes.{Bytes}
use Rattle.baf_auditor.specs.declared.label.Bytes.TheVariants.{Inline, Apart}

-- the bytes
abbrev pub bytes_of : Bytes → List ℕ
bytes_of (Inline count bytes) = take count bytes
bytes_of (Apart bytes) = bytes.value.items

-- no more of them stand in the value itself than it has room for
abbrev pub AreInside : Bytes → Type 0
AreInside (Inline count bytes) = count ≤ 7
AreInside (Apart bytes) = Unit {0}
