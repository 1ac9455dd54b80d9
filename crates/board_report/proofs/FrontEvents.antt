-- The event that a text begins with, or its fault.
use Rattle.std.proofs.Common.{◌≡◌, ℕ, ◌+◌, ◌-◌, ◌≤◌, ◌<◌, ◌^◌, List, [], ◌∷◌, ◌++◌, length, take, drop, Some, Err, refl, ap, sym, subst, ◌∙◌, arith, append-nil, append_assoc, length-append}
use Rattle.std.specs.List.{AllByRecursion}
use Rattle.std.specs.Option.{option_map}
use Rattle.std.proofs.Math.Seq.{take-append-add}
use Rattle.std.proofs.lemmas.Grind.{flat_map-append}
use Rattle.std.proofs.lemmas.List.{take-append-drop}
use Rattle.field_lines.specs.RawPieces.{RawLine, raw_lines, raw_lines_from, text_of as raw_text}
use Rattle.field_lines.proofs.TextLemmas.{text_of-raw_lines}
use Rattle.certificate_data.specs.declared.format.Format.{Format}
use Rattle.certificate_lines.specs.Items.{by_words, items_from}
use Rattle.certificate_lines.specs.Rest.{Rest, lines_of as lines_left, TakesTextLine, FaultOf, text_fault_at}
use Rattle.certificate_lines.specs.Fitting.{AllFit}
use Rattle.certificate_lines.specs.declared.fault.TextFault.{TextFault}
use Rattle.certificate_lines.specs.declared.fault.TextKind.{TextKind}
use Rattle.certificate_lines.specs.declared.item.Wanted.{Wanted}
use Rattle.board_laws.specs.Content.{Event}
use Rattle.board_report.specs.EventLines.{event_on}
use Rattle.board_report.specs.EventSpelling.{line_of_event, items_of, event_line, FitsLine, wanted_by, text_of_event, text_of_events, HasSpelling, EventsAreSpelled}
use Rattle.board_report.specs.LaterLines.{StandsBehind}
use Rattle.board_report.specs.EventFaults.{fault_from, events_fault}
use Rattle.board_report.specs.declared.event_line.EventLine.{EventLine}
use Rattle.board_report.proofs.LinesRead.{event_read}
use Rattle.board_report.proofs.FaultLaws.{by_first, lines_of, lines_of-more, events_passed}
use Rattle.board_report.proofs.FaultPlaces.{further, fault_further, fault_within}
use Rattle.board_report.proofs.FaultTold.{fault_told}

abbrev pub whole : List ℕ → Rest
whole text = record { number = 1; text = text }

-- a fault that was moved stands `k` lines further on
pub further_is : (k : ℕ) (f g : TextFault) → g.kind ≡ f.kind → g.line ≡ f.line + k → further k f ≡ g
further_is k f g kind line = ap (λ (x : TextKind). text_fault_at x (f.line + k)) (sym kind) ∙ ap (λ (n : ℕ). text_fault_at g.kind n) (sym line)

module _ (format : Format) (counties : ℕ) (text : List ℕ) where
  -- the first line is at fault
  pub first_refused : 0 < length text → (start : Rest) → start ≡ whole text → (fault : TextFault) → FaultOf (by_words event_on) start.number (lines_left start) fault → events_fault format counties text ≡ Some fault
  first_refused some start is fault h =
      go (raw_lines text) refl (subst (λ (r : Rest). FaultOf (by_words event_on) r.number (lines_left r) fault) is h)
    where
      go : (pieces : List RawLine) → raw_lines text ≡ pieces → FaultOf (by_words event_on) 1 pieces fault → fault_from format counties [] 1 pieces ≡ Some fault
      go [] e f =
          let none : text ≡ [] = sym (text_of-raw_lines 1 text) ∙ ap raw_text e in
          absurd (omega (arith, some, ap length none))
      go (piece ∷ pieces) e f = ap (by_first format counties 1 pieces) f.0 ∙ ap (λ (n : ℕ). Some (text_fault_at fault.kind n)) (sym f.1)

  module _ (start mid : Rest) (is : start ≡ whole text) (line : EventLine) (takes : TakesTextLine (by_words event_on) line start mid) where
    pub text_cut : text ≡ event_line line ++ mid.text
    text_cut = ap (λ (r : Rest). r.text) (sym is) ∙ takes.text ∙ ap (λ (l : List ℕ). l ++ mid.text) (event_read takes.piece line takes.value).bytes

    next_number : mid.number ≡ 2
    next_number = takes.number ∙ ap (λ (r : Rest). r.number + 1) is

    pub shorter : length mid.text < length text
    shorter = omega (arith, takes.shorter, ap (λ (r : Rest). length r.text) is)

    -- what is behind the first line is the rest of the event
    pub front_text : (length_behind : ℕ) (e : Event) → StandsBehind format counties line (take length_behind mid.text) e → take (length text - length mid.text + length_behind) text ≡ text_of_event e
    front_text n e behind =
        let place : length text - length mid.text + n ≡ length (event_line line) + n = omega (arith, ap length text_cut, length-append (event_line line) mid.text) in
        ap (λ (k : ℕ). take k text) place ∙ ap (λ (t : List ℕ). take (length (event_line line) + n) t) text_cut ∙ take-append-add (event_line line) mid.text n
        ∙ ap (λ (l : EventLine). event_line l ++ take n mid.text) (sym behind.line_is) ∙ ap (λ (t : List ℕ). event_line (line_of_event e) ++ t) behind.text_is

    pub front_spelled : (behind_text : List ℕ) (e : Event) → StandsBehind format counties line behind_text e → HasSpelling format counties e
    front_spelled t e behind = record {
      line = subst (λ (l : EventLine). FitsLine l) (sym behind.line_is) (event_read takes.piece line takes.value).fits;
      items = subst (λ (l : EventLine). AllFit (wanted_by format counties l) (items_of e)) (sym behind.line_is) behind.fits;
      form = behind.form;
    }

    -- a fault behind the first line
    pub behind_refused : length text + 1 < 2 ^ 64 → (f g : TextFault) → g.kind ≡ f.kind → (f.line + 1 < 2 ^ 64 → g.line ≡ f.line + 1)
        → ((more : List Wanted) → items_from (wanted_by format counties line ++ more) 1 (raw_lines mid.text) ≡ Err f) → events_fault format counties text ≡ Some g
    behind_refused small f g kind moved h =
        let wanted = wanted_by format counties line in
        let told : fault_from format counties wanted 1 (raw_lines mid.text) ≡ Some f =
        ap (λ (w : List Wanted). fault_from format counties w 1 (raw_lines mid.text)) (sym (append-nil wanted)) ∙ fault_told format counties wanted [] 1 (raw_lines mid.text) f h in
        let low = fault_within format counties wanted 1 mid.text f told in
        let fits : f.line + 1 < 2 ^ 64 = omega (arith, low, shorter, small) in
        let cut : raw_lines text ≡ takes.piece ∷ raw_lines_from 2 mid.text =
        ap lines_left (sym is) ∙ takes.lines ∙ ap (λ (n : ℕ). takes.piece ∷ raw_lines_from n mid.text) next_number in
        ap (fault_from format counties [] 1) cut ∙ ap (by_first format counties 1 (raw_lines_from 2 mid.text)) takes.value
        ∙ fault_further format counties 1 wanted 1 mid.text ∙ ap (option_map (further 1)) told ∙ ap (λ (x : TextFault). Some x) (further_is 1 f g kind (moved fits))

-- events that were read, and the text that is left
pub record Passed (format : Format) (counties : ℕ) (text : List ℕ) (events : List Event) (lines : ℕ) (rest : List ℕ) : Type 0 where
  pub text_is : text ≡ text_of_events events ++ rest
  pub fit : AllByRecursion (HasSpelling format counties) events
  pub lines_are : lines ≡ lines_of events
  pub short : lines + length rest ≤ length text

module _ (format : Format) (counties : ℕ) (text : List ℕ) where
  pub passed_none : Passed format counties text [] 0 text
  passed_none = record { text_is = refl; fit = tt; lines_are = refl; short = omega arith }

  all_more : (es : List Event) (e : Event) → AllByRecursion (HasSpelling format counties) es → HasSpelling format counties e → AllByRecursion (HasSpelling format counties) (es ++ e ∷ [])
  all_more [] e a h = (h, tt)
  all_more (x ∷ es) e a h = (a.0, all_more es e a.1 h)

  -- one more event was read
  pub passed_more : (es : List Event) (e : Event) (lines more n : ℕ) (rest : List ℕ) → Passed format counties text es lines rest → HasSpelling format counties e → take n rest ≡ text_of_event e
      → more ≡ 1 + length (items_of e) → more + length (drop n rest) ≤ length rest → Passed format counties text (es ++ e ∷ []) (lines + more) (drop n rest)
  passed_more es e lines more n rest p h is count few = record {
    text_is =
        let cut : rest ≡ text_of_event e ++ drop n rest = sym (take-append-drop n rest) ∙ ap (λ (t : List ℕ). t ++ drop n rest) is in
        let both : text_of_events (es ++ e ∷ []) ≡ text_of_events es ++ text_of_event e =
        flat_map-append text_of_event es (e ∷ []) ∙ ap (λ (t : List ℕ). text_of_events es ++ t) (append-nil (text_of_event e)) in
        p.text_is ∙ ap (λ (t : List ℕ). text_of_events es ++ t) cut ∙ sym (append_assoc (text_of_events es) (text_of_event e) (drop n rest)) ∙ ap (λ (t : List ℕ). t ++ drop n rest) (sym both);
    fit = all_more es e p.fit h;
    lines_are = omega (arith, p.lines_are, count, lines_of-more es e);
    short = omega (arith, p.short, few);
  }

  pub passed_all : (es : List Event) (lines : ℕ) (rest : List ℕ) → Passed format counties text es lines rest → rest ≡ [] → EventsAreSpelled format counties text es
  passed_all es lines rest p none = record { fit = p.fit; text_is = p.text_is ∙ ap (λ (t : List ℕ). text_of_events es ++ t) none ∙ append-nil (text_of_events es) }

  -- a fault in the text that is left
  pub passed_refused : (es : List Event) (lines : ℕ) (rest : List ℕ) → Passed format counties text es lines rest → length text + 1 < 2 ^ 64 → (f g : TextFault) → g.kind ≡ f.kind → (f.line + lines < 2 ^ 64 → g.line ≡ f.line + lines)
      → events_fault format counties rest ≡ Some f → events_fault format counties text ≡ Some g
  passed_refused es lines rest p small f g kind moved h =
      let low = fault_within format counties [] 1 rest f h in
      let fits : f.line + lines < 2 ^ 64 = omega (arith, low, p.short, small) in
      ap (events_fault format counties) p.text_is ∙ events_passed format counties 1 es rest p.fit
      ∙ ap (λ (k : ℕ). fault_from format counties [] (1 + k) (raw_lines_from (1 + k) rest)) (sym p.lines_are)
      ∙ fault_further format counties lines [] 1 rest ∙ ap (option_map (further lines)) h ∙ ap (λ (x : TextFault). Some x) (further_is lines f g kind (moved fits))
