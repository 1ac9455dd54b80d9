-- Texts of a form that are read from a source one after the other.
use Rattle.std.specs.Prelude.{◌≡◌, ◌≢◌, ◌<◌, ◌+◌, ◌-◌, ◌^◌, ℕ, Bool, true, List, [], ◌∷◌, ◌++◌, length, filter}
use Rattle.std.specs.Prelude.{Option, Some, None, Result, Ok, Err, ◌⊎◌, ◌≤◌, ⊤, false}
use Rattle.field_lines.specs.RawPieces.{is_lf}
use Rattle.field_lines.specs.Source.{Given}
use Rattle.field_lines.specs.HeldBytes.{MayCome}
use Rattle.certificate_lines.specs.Rest.{IsUnread, text_fault_at}
use Rattle.certificate_lines.specs.declared.fault.TextKind.{TextKind}
use Rattle.certificate_lines.specs.declared.fault.TextKind.TheVariants.{CutShort, ReadFault}
use Rattle.certificate_lines.specs.declared.fault.TextFault.{TextFault}

-- A form of texts: what a value that is read tells, the bytes of what is told, what has a text, and the fault of bytes.
pub record Form (X T : Type 0) : Type 1 where
  pub told : X → T
  pub text_of : T → List ℕ
  pub HasText : T → Type 0
  pub HasFault : List ℕ → TextFault → Type 0

-- an LF ends the text
pub record EndsWithLf (text : List ℕ) : Type 0 where
  pub front : List ℕ
  pub is : text ≡ front ++ 10 ∷ []

-- An LF ends each text of the form. A fault stands on a line of the bytes or behind the last, and the source is not at
-- fault. Behind whole lines the fault stays, whatever bytes come, unless lines are missing.
pub record IsByLines {X T : Type 0} (form : Form X T) : Type 0 where
  pub ends : (told : T) → EndsWithLf (form.text_of told)
  pub within : (text : List ℕ) (fault : TextFault) → form.HasFault text fault → fault.line ≤ 1 + length text
  pub read : (text : List ℕ) (fault : TextFault) → form.HasFault text fault → fault.kind ≢ ReadFault
  pub stays : (front later : List ℕ) (fault : TextFault) → fault.kind ≢ CutShort
      → form.HasFault (front ++ 10 ∷ []) fault → form.HasFault (front ++ 10 ∷ later) fault

-- bytes that were pulled and are of no text that was read, and the number of lines in front of them
pub record Held : Type 0 where
  pub bytes : List ℕ
  pub lines : ℕ

-- nothing was pulled
abbrev pub nothing_held : Held
nothing_held = record { bytes = []; lines = 0 }

-- the number of LFs in a text
abbrev pub lines_in : List ℕ → ℕ
lines_in text = length (filter is_lf text)

-- The bytes that a source gave meanwhile stand behind those that were held.
pub record PullsOnto (before after : Given) (held text : List ℕ) : Type 0 where
  pub pulled : List ℕ
  pub given : after.bytes ≡ before.bytes ++ pulled
  pub text_is : text ≡ held ++ pulled

-- each text that begins with these bytes has the fault; after the end it is these bytes
abbrev pub HaveFault : {X T : Type 0} → Form X T → List ℕ → Bool → TextFault → Type 0
HaveFault form bytes ended fault = (later : List ℕ) → MayCome ended later → form.HasFault (bytes ++ later) fault

-- a text of the form stands at the front of the bytes
pub record BeginsWithText {X T : Type 0} (form : Form X T) (bytes : List ℕ) : Type 0 where
  pub told : T
  pub rest : List ℕ
  pub spelled : form.HasText told
  pub text_is : bytes ≡ form.text_of told ++ rest

-- the text was read from the front of the bytes, and the others are held
pub record TakesText {X T : Type 0} (form : Form X T) (old : Held) (told : T) (new : Held) : Type 0 where
  pub text_is : old.bytes ≡ form.text_of told ++ new.bytes
  pub spelled : form.HasText told
  pub lines : old.lines + lines_in (form.text_of told) < 2 ^ 64 → new.lines ≡ old.lines + lines_in (form.text_of told)

-- The fault of the bytes is told with its line in all that was given, and all bytes stay held. A text at their front is
-- refused only if memory was refused, or the source failed.
pub record TellsFault {X T : Type 0} (form : Form X T) (old : Held) (ended : Bool) (fault : TextFault)
    (new : Held) : Type 0 where
  pub stays : new ≡ old
  pub only : BeginsWithText form old.bytes → IsUnread fault
  pub found : (IsUnread fault → ⊥) → old.lines + (length old.bytes + 1) < 2 ^ 64
      → HaveFault form old.bytes ended (text_fault_at fault.kind (fault.line - old.lines))

-- What is answered of the bytes that are held: the text at their front, the end where there are none, or a fault.
abbrev pub IsNext : {X T : Type 0} → Form X T → Held → Bool → Result (Option X) TextFault → Held → Type 0
IsNext form old ended (Ok (Some text)) new = TakesText form old (form.told text) new
IsNext form old ended (Ok None) new = (ended ≡ true) × (old.bytes ≡ []) × (new ≡ old)
IsNext form old ended (Err fault) new = TellsFault form old ended fault new

-- Bytes were pulled behind those that were held, and this is answered of them all.
pub record ReadsNext {X T : Type 0} (form : Form X T) (old : Held) (before after : Given)
    (result : Result (Option X) TextFault) (new : Held) : Type 0 where
  pub bytes : List ℕ
  pub pulls : PullsOnto before after old.bytes bytes
  pub next : IsNext form (record { bytes = bytes; lines = old.lines }) after.ended result new

-- at most this many bytes stand behind a text that was read, unless nothing was pulled
abbrev pub IsPrompt : {X : Type 0} → ℕ → Given → Given → Result (Option X) TextFault → Held → Type 0
IsPrompt most before after (Ok (Some text)) new = (after ≡ before) ⊎ (length new.bytes ≤ most)
IsPrompt most before after result new = ⊤

-- whether a fault, or an answer, says that the source could not be read
abbrev pub is_read_kind : TextKind → Bool
is_read_kind ReadFault = true
is_read_kind kind = false

abbrev pub is_read_fault : {A : Type 0} → Result A TextFault → Bool
is_read_fault (Ok x) = false
is_read_fault (Err fault) = is_read_kind fault.kind
