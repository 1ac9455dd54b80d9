use Rattle.std.proofs.Common.{subst}
use Rattle.board_report.proofs.OneList.{one_list, one_text, append_spelled}
use Rattle.board_report.proofs.FaultLaws.{none_met}
use Rattle.board_report.proofs.SomeEvents.{some_list}
use Rattle.certificate_lines.proofs.LineKinds.{OfLine}
use Rattle.board_report.proofs.FaultKinds.{fault_of_line}
use Rattle.board_report.proofs.event_laws.events_have_texts.Goals as goal

pub returns : goal.returns
returns c = record {
  one_list = one_list;
  one_text = one_text;
  append = append_spelled;
  no_fault = λ format counties text es h. none_met format counties text es h.fit h.text_is;
  some_list = some_list;
  faults = λ format counties text fault h.
      let said = fault_of_line format counties text fault h in
      (λ e. subst OfLine e said, λ e. subst OfLine e said, λ e. subst OfLine e said, λ e. subst OfLine e said);
}
