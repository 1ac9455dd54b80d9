-- The fault of a text is never that memory was refused or that a source could not be read.
use Rattle.std.proofs.Common.{◌≡◌, ◌≢◌, ℕ, List, [], ◌∷◌, subst}
use Rattle.field_lines.specs.RawPieces.{raw_lines}
use Rattle.certificate_lines.specs.Rest.{IsTextMemory}
use Rattle.certificate_lines.specs.declared.fault.TextKind.TheVariants.{ReadFault, Memory}
use Rattle.certificate_lines.specs.declared.fault.TextFault.{TextFault}
use Rattle.certificate_lines.specs.declared.item.Wanted.TheVariants as want
use Rattle.certificate_text.proofs.TextKinds.{OfText, SaidFault, reading_said}
use Rattle.checker_laws.specs.TextVerdict.{HasTextFault}

of_text : (text : List ℕ) (fault : TextFault) → HasTextFault text fault → OfText fault.kind
of_text text fault h = subst SaidFault h (reading_said (want.Head ∷ []) 1 (raw_lines text))

pub not_memory : (text : List ℕ) (fault : TextFault) → HasTextFault text fault → IsTextMemory fault → ⊥
not_memory text fault h e = subst OfText e (of_text text fault h)

not_reading : (text : List ℕ) (fault : TextFault) → HasTextFault text fault → fault.kind ≡ ReadFault → ⊥
not_reading text fault h e = subst OfText e (of_text text fault h)

pub faults_of_lines : (text : List ℕ) (fault : TextFault) → HasTextFault text fault → (fault.kind ≢ Memory) × (fault.kind ≢ ReadFault)
faults_of_lines text fault h = (not_memory text fault h, not_reading text fault h)
