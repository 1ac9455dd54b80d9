-- No fault is met in the text of events that have a spelling.
use Rattle.std.proofs.Common.{◌≡◌, ℕ, ◌+◌, List, [], ◌∷◌, ◌++◌, length, Option, Some, None, Result, Ok, Err, ap, sym, ◌∙◌, arith, append_assoc, append-nil}
use Rattle.std.specs.List.{AllByRecursion, join_with_byte}
use Rattle.field_lines.specs.RawPieces.{RawLine, raw_lines_from}
use Rattle.certificate_data.specs.declared.format.Format.{Format}
use Rattle.certificate_lines.specs.Items.{wanted_after}
use Rattle.certificate_lines.specs.Rest.{text_fault_at}
use Rattle.certificate_lines.specs.Spelling.{item_words, text_of_items}
use Rattle.certificate_lines.specs.Fitting.{AllFit}
use Rattle.certificate_lines.specs.declared.fault.TextFault.{TextFault}
use Rattle.certificate_lines.specs.declared.fault.TextKind.{TextKind}
use Rattle.certificate_lines.specs.declared.item.Item.{Item}
use Rattle.certificate_lines.specs.declared.item.Wanted.{Wanted}
use Rattle.certificate_text.proofs.TextBack.{fits_line, line_cut}
use Rattle.board_laws.specs.Content.{Event}
use Rattle.board_report.specs.EventSpelling.{event_words, line_of_event, items_of, wanted_by, text_of_event, text_of_events, HasSpelling}
use Rattle.board_report.specs.EventFaults.{fault_from, events_fault}
use Rattle.board_report.specs.declared.event_line.EventLine.{EventLine}
use Rattle.board_report.proofs.LinesBack.{event_back}

-- how many lines events have
abbrev pub lines_of : List Event → ℕ
lines_of [] = 0
lines_of (e ∷ es) = (1 + length (items_of e)) + lines_of es

pub lines_of-more : (es : List Event) (e : Event) → lines_of (es ++ e ∷ []) ≡ lines_of es + (1 + length (items_of e))
lines_of-more [] e = omega arith
lines_of-more (a ∷ es) e = omega (arith, lines_of-more es e)

module _ (format : Format) (counties : ℕ) where
  -- what a first line, or another line, leads to
  abbrev pub by_first : ℕ → List RawLine → Result EventLine TextKind → Option TextFault
  by_first n pieces r = elim r as (λ _. Option TextFault) [
    | Ok line ↦ fault_from format counties (wanted_by format counties line) (n + 1) pieces
    | Err kind ↦ Some (text_fault_at kind n)
  ]

  abbrev pub by_item : Wanted → List Wanted → ℕ → List RawLine → Result Item TextKind → Option TextFault
  by_item w more n pieces r = elim r as (λ _. Option TextFault) [
    | Ok item ↦ fault_from format counties (wanted_after w item ++ more) (n + 1) pieces
    | Err kind ↦ Some (text_fault_at kind n)
  ]

  -- no fault is met at items that fit
  pub items_passed : (wanted more : List Wanted) (n : ℕ) (items : List Item) (rest : List ℕ) → AllFit wanted items
      → fault_from format counties (wanted ++ more) n (raw_lines_from n (text_of_items items ++ rest)) ≡ fault_from format counties more (n + length items) (raw_lines_from (n + length items) rest)
  items_passed [] more n [] rest f =
      let same : n ≡ n + 0 = omega arith in
      ap (λ (k : ℕ). fault_from format counties more k (raw_lines_from k rest)) same
  items_passed [] more n (item ∷ items) rest f = absurd f
  items_passed (w ∷ others) more n [] rest f = absurd f
  items_passed (w ∷ others) more n (item ∷ items) rest f =
      let one = fits_line n w item f.0 in
      let line = join_with_byte 32 (item_words item) in
      let whole : text_of_items (item ∷ items) ++ rest ≡ line ++ 10 ∷ (text_of_items items ++ rest) =
      append_assoc (line ++ 10 ∷ []) (text_of_items items) rest ∙ append_assoc line (10 ∷ []) (text_of_items items ++ rest) in
      let cut = ap (raw_lines_from n) whole ∙ line_cut n line (text_of_items items ++ rest) one.printed in
      let later = items_passed (wanted_after w item ++ others) more (n + 1) items rest f.1 in
      let wanted : wanted_after w item ++ (others ++ more) ≡ (wanted_after w item ++ others) ++ more = sym (append_assoc (wanted_after w item) others more) in
      let count : n + 1 + length items ≡ n + length (item ∷ items) = omega arith in
      ap (fault_from format counties (w ∷ (others ++ more)) n) cut ∙ ap (by_item w (others ++ more) n (raw_lines_from (n + 1) (text_of_items items ++ rest))) one.read
      ∙ ap (λ (l : List Wanted). fault_from format counties l (n + 1) (raw_lines_from (n + 1) (text_of_items items ++ rest))) wanted ∙ later ∙ ap (λ (k : ℕ). fault_from format counties more k (raw_lines_from k rest)) count

  -- no fault is met at an event
  pub event_passed : (n : ℕ) (e : Event) (rest : List ℕ) → HasSpelling format counties e
      → fault_from format counties [] n (raw_lines_from n (text_of_event e ++ rest)) ≡ fault_from format counties [] (n + (1 + length (items_of e))) (raw_lines_from (n + (1 + length (items_of e))) rest)
  event_passed n e rest h =
      let one = event_back (line_of_event e) h.line in
      let line = join_with_byte 32 (event_words (line_of_event e)) in
      let items = items_of e in
      let wanted = wanted_by format counties (line_of_event e) in
      let whole : text_of_event e ++ rest ≡ line ++ 10 ∷ (text_of_items items ++ rest) =
      append_assoc (line ++ 10 ∷ []) (text_of_items items) rest ∙ append_assoc line (10 ∷ []) (text_of_items items ++ rest) in
      let cut = ap (raw_lines_from n) whole ∙ line_cut n line (text_of_items items ++ rest) one.printed in
      let count : n + 1 + length items ≡ n + (1 + length items) = omega arith in
      ap (fault_from format counties [] n) cut ∙ ap (by_first n (raw_lines_from (n + 1) (text_of_items items ++ rest))) (one.read_as n)
      ∙ ap (λ (l : List Wanted). fault_from format counties l (n + 1) (raw_lines_from (n + 1) (text_of_items items ++ rest))) (sym (append-nil wanted))
      ∙ items_passed wanted [] (n + 1) items rest h.items
      ∙ ap (λ (k : ℕ). fault_from format counties [] k (raw_lines_from k rest)) count

  -- no fault is met at events
  pub events_passed : (n : ℕ) (es : List Event) (rest : List ℕ) → AllByRecursion (HasSpelling format counties) es
      → fault_from format counties [] n (raw_lines_from n (text_of_events es ++ rest)) ≡ fault_from format counties [] (n + lines_of es) (raw_lines_from (n + lines_of es) rest)
  events_passed n [] rest h =
      let same : n ≡ n + 0 = omega arith in
      ap (λ (k : ℕ). fault_from format counties [] k (raw_lines_from k rest)) same
  events_passed n (e ∷ es) rest h =
      let m = n + (1 + length (items_of e)) in
      let count : m + lines_of es ≡ n + lines_of (e ∷ es) = omega arith in
      ap (λ (t : List ℕ). fault_from format counties [] n (raw_lines_from n t)) (append_assoc (text_of_event e) (text_of_events es) rest)
      ∙ event_passed n e (text_of_events es ++ rest) h.0 ∙ events_passed m es rest h.1
      ∙ ap (λ (k : ℕ). fault_from format counties [] k (raw_lines_from k rest)) count

  -- a text of events that have a spelling has no fault
  pub none_met : (text : List ℕ) (es : List Event) → AllByRecursion (HasSpelling format counties) es → text ≡ text_of_events es → events_fault format counties text ≡ None
  none_met text es h is =
      ap (events_fault format counties) (is ∙ sym (append-nil (text_of_events es))) ∙ events_passed 1 es [] h
