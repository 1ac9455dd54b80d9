-- Texts of a worker that are read from a source one after the other.
use Rattle.std.specs.Prelude.{◌≡◌, Bool, Option, Result, Err}
use Rattle.field_lines.specs.Source.{Given}
use Rattle.certificate_lines.specs.declared.fault.TextFault.{TextFault}
use Rattle.worker_texts.specs.declared.worker_text.WorkerText.{WorkerText}
use Rattle.worker_texts.specs.WorkerText.{WorkerTextTold, text_of, HasWorkerText, text_in}
use Rattle.worker_texts.specs.TextValue.{worker_text_of}
use Rattle.worker_texts.specs.TextForms as forms
pub use Rattle.worker_texts.specs.TextForms.{Held, nothing_held, lines_in, PullsOnto, IsPrompt, is_read_kind, is_read_fault}

-- the form of a worker's texts
abbrev pub worker_form : forms.Form WorkerText WorkerTextTold
worker_form = record {
  told = worker_text_of;
  text_of = text_of;
  HasText = HasWorkerText;
  HasFault = λ text fault. text_in text ≡ Err fault;
}

-- the text was read from the front of the bytes, and the others are held
abbrev pub TakesText : Held → WorkerTextTold → Held → Type 0
TakesText = forms.TakesText worker_form

-- the fault of the bytes is told with its line in all that was given, and all bytes stay held
abbrev pub TellsFault : Held → Bool → TextFault → Held → Type 0
TellsFault = forms.TellsFault worker_form

-- bytes were pulled behind those that were held, and this is answered of them all
abbrev pub ReadsNext : Held → Given → Given → Result (Option WorkerText) TextFault → Held → Type 0
ReadsNext = forms.ReadsNext worker_form
