-- The faults that texts in memory can have.
use Rattle.pl94_counties.specs.declared.fault.Pl94Kind.{Pl94Kind}
use Rattle.pl94_counties.specs.declared.fault.Pl94Kind.TheVariants.{Lower}
use Rattle.field_lines.specs.declared.fault.LineFault.TheVariants.{ReadFault, Memory}

-- no line failed to be read, and none was refused memory
abbrev pub IsPl94OfText : Pl94Kind → Type 0
IsPl94OfText (Lower (ReadFault number)) = ⊥
IsPl94OfText (Lower Memory) = ⊥
IsPl94OfText kind = Unit {0}
