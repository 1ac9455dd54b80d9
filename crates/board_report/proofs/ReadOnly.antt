-- What is spelled is read, unless memory is refused.
use Rattle.std.proofs.Common.{◌≡◌, ℕ, List, Option, Some, None, Result, Ok, Err, sym, ◌∙◌}
use Rattle.std.specs.Result.{IfOk, IfErr}
use Rattle.certificate_data.specs.declared.format.Format.{Format}
use Rattle.certificate_lines.specs.Rest.{IsTextMemory}
use Rattle.certificate_lines.specs.Reading.{IsUnlessMemory}
use Rattle.certificate_lines.specs.declared.fault.TextFault.{TextFault}
use Rattle.certificate_text.proofs.GiveLaws.{memory_only}
use Rattle.board_laws.specs.Content.{Event}
use Rattle.board_report.specs.EventSpelling.{EventsAreSpelled}
use Rattle.board_report.specs.EventFaults.{events_fault}
use Rattle.board_report.proofs.FaultLaws.{none_met}
use Rattle.board_report.proofs.OneList.{one_list}

no_fault : (fault : TextFault) → ◌≡◌ {A = Option TextFault} None (Some fault) → ⊥
no_fault fault h = cc

pub only_read : {X : Type 0} (view : X → List Event) (format : Format) (counties : ℕ) (text : List ℕ) (r : Result X TextFault) → IfOk r (λ v. EventsAreSpelled format counties text (view v))
    → IfErr r (λ f. (IsTextMemory f → ⊥) → events_fault format counties text ≡ Some f) → (es : List Event) → EventsAreSpelled format counties text es → IsUnlessMemory view r es
only_read view format counties text (Ok v) found fault es h = one_list format counties text (view v) es found h
only_read view format counties text (Err f) found fault es h = memory_only f.kind (λ other. no_fault f (sym (none_met format counties text es h.fit h.text_is) ∙ fault other))
