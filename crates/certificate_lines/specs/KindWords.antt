-- The word of each kind of fault of a line.
use Rattle.std.specs.Prelude.{ℕ, List, codes}
use Rattle.certificate_lines.specs.declared.fault.TextKind.{TextKind}
use Rattle.certificate_lines.specs.declared.fault.TextKind.TheVariants.{BadHead, BadWord, BadNumber, NotCanonical}
use Rattle.certificate_lines.specs.declared.fault.TextKind.TheVariants.{CutShort, AfterEnd, TooDeep, ReadFault, Memory}

-- the word of a kind of fault
abbrev pub text_kind_word : TextKind → List ℕ
text_kind_word BadHead = codes "BadHead"
text_kind_word BadWord = codes "BadWord"
text_kind_word BadNumber = codes "BadNumber"
text_kind_word NotCanonical = codes "NotCanonical"
text_kind_word CutShort = codes "CutShort"
text_kind_word AfterEnd = codes "AfterEnd"
text_kind_word TooDeep = codes "TooDeep"
text_kind_word ReadFault = codes "ReadFault"
text_kind_word Memory = codes "Memory"
