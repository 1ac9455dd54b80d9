-- A text without a fault is that of events.
use Rattle.std.proofs.Common.{◌≡◌, ℕ, zero, suc, ◌+◌, ◌≤◌, List, [], ◌∷◌, ◌++◌, length, map, None, Result, Ok, Err, refl, sym, ap, subst, ◌∙◌, arith, append_assoc, append-nil}
use Rattle.std.specs.List.{AllByRecursion}
use Rattle.field_lines.specs.RawPieces.{RawLine, raw_lines, text_of as raw_text}
use Rattle.field_lines.proofs.TextLemmas.{text_of-raw_lines}
use Rattle.certificate_data.specs.declared.format.Format.{Format}
use Rattle.certificate_lines.specs.Items.{by_words, item_on, wanted_after, groups_wanted}
use Rattle.certificate_lines.specs.Spelling.{item_line, text_of_items}
use Rattle.certificate_lines.specs.Fitting.{AllFit}
use Rattle.certificate_lines.specs.declared.fault.TextKind.{TextKind}
use Rattle.certificate_lines.specs.declared.item.Item.{Item}
use Rattle.certificate_lines.specs.declared.item.Item.TheVariants.{Grouped}
use Rattle.certificate_lines.specs.declared.item.Wanted.{Wanted}
use Rattle.certificate_lines.proofs.FitsLaws.{item_fits}
use Rattle.certificate_lines.proofs.TextLaws.{item_ok, line_is}
use Rattle.certificate_text.specs.Trees.{items_of_tree}
use Rattle.checker_laws.proofs.TreesFound.{groups_found, tree_found}
use Rattle.partial_text.specs.PartItems.{items_of_part}
use Rattle.partial_text.proofs.PartsFound.{part_found}
use Rattle.board_laws.specs.Content.{Event, hand, result, split_piece, part_piece, better, wider}
use Rattle.board_report.specs.EventLines.{event_on}
use Rattle.board_report.specs.EventSpelling.{line_of_event, items_of, wanted_by, event_line, FitsLine, HasForm, text_of_event, text_of_events, HasSpelling, EventsAreSpelled}
use Rattle.board_report.specs.EventFaults.{fault_from, events_fault}
use Rattle.board_report.specs.declared.event_line.EventLine.{EventLine}
use Rattle.board_report.specs.declared.event_line.EventLine.TheVariants as says
use Rattle.board_report.proofs.LinesRead.{event_read}
use Rattle.board_report.proofs.FaultLaws.{by_first, by_item}

no_items : (items : List Item) → AllFit [] items → items ≡ []
no_items [] f = refl
no_items (item ∷ items) f = absurd f

-- the event of a first line and the items behind it
record Found (line : EventLine) (items : List Item) : Type 0 where
  pub event : Event
  pub form : HasForm event
  pub line_is : line_of_event event ≡ line
  pub items_are : items_of event ≡ items

module _ (format : Format) (counties : ℕ) where
  event_found : (line : EventLine) (items : List Item) → AllFit (wanted_by format counties line) items → Found line items
  event_found (says.Hand from) items f = record { event = hand from; form = tt; line_is = refl; items_are = sym (no_items items f) }
  event_found (says.Result round piece) items f =
      let t = tree_found format counties [] items f in
      record {
        event = result round piece t.tree;
        form = tt;
        line_is = refl;
        items_are = sym
            (t.are ∙ ap (λ (l : List Item). items_of_tree t.tree ++ l) (no_items t.later t.fits) ∙ append-nil (items_of_tree t.tree));
      }
  event_found (says.Split round piece county limit) items f = record {
    event = split_piece round piece county limit;
    form = tt;
    line_is = refl;
    items_are = sym
        (no_items items f);
  }
  event_found (says.Part round piece) items f =
      let t = part_found format counties [] items f in
      record {
        event = part_piece round piece t.tree;
        form = t.branches;
        line_is = refl;
        items_are = sym
            (t.are ∙ ap (λ (l : List Item). items_of_part t.tree ++ l) (no_items t.later t.fits) ∙ append-nil (items_of_part t.tree));
      }
  event_found (says.Better round groups) items f =
      let g = groups_found groups [] items (subst (λ (l : List Wanted). AllFit l items) (sym (append-nil (groups_wanted groups))) f) in
      record {
        event = better round g.groups;
        form = tt;
        line_is = ap (says.Better round) g.many;
        items_are = sym
            (g.are ∙ ap (λ (l : List Item). map Grouped g.groups ++ l) (no_items g.later g.fits) ∙ append-nil (map Grouped g.groups));
      }
  event_found (says.Wider round) items f = record { event = wider round; form = tt; line_is = refl; items_are = sym (no_items items f) }

  -- the items that were wanted, and the lines behind them
  record Behind (wanted : List Wanted) (n : ℕ) (pieces : List RawLine) : Type 0 where
    pub items : List Item
    pub fit : AllFit wanted items
    pub number : ℕ
    pub rest : List RawLine
    pub text_is : raw_text pieces ≡ text_of_items items ++ raw_text rest
    pub no_fault : fault_from format counties [] number rest ≡ None
    pub fewer : length rest ≤ length pieces

  items_behind : (wanted : List Wanted) (n : ℕ) (pieces : List RawLine) → fault_from format counties wanted n pieces ≡ None → Behind wanted n pieces
  items_behind [] n pieces h = record { items = []; fit = tt; number = n; rest = pieces; text_is = refl; no_fault = h; fewer = omega arith }
  items_behind (w ∷ more) n [] h = cc
  items_behind (w ∷ more) n (piece ∷ pieces) h = go (λ ws e. items_behind ws (n + 1) pieces e) (item_on w piece) refl h
    where
      go : ((ws : List Wanted) → fault_from format counties ws (n + 1) pieces ≡ None → Behind ws (n + 1) pieces) → (r : Result Item TextKind)
          → item_on w piece ≡ r → by_item format counties w more n pieces r ≡ None
          → Behind (w ∷ more) n (piece ∷ pieces)
      go next (Err kind) e k = cc (k)
      go next (Ok item) e k =
          let later = next (wanted_after w item ++ more) k in
          record {
            items = item ∷ later.items;
            fit = (item_fits w piece item e, later.fit);
            number = later.number;
            rest = later.rest;
            text_is = ap (λ (t : List ℕ). t ++ raw_text pieces) (line_is piece item (item_ok w piece item e))
                ∙ ap (λ (t : List ℕ). item_line item ++ t) later.text_is ∙ sym (append_assoc (item_line item) (text_of_items later.items) (raw_text later.rest));
            no_fault = later.no_fault;
            fewer = omega (arith, later.fewer);
          }

  -- events that lines spell
  record Spelled (pieces : List RawLine) : Type 0 where
    pub events : List Event
    pub fit : AllByRecursion (HasSpelling format counties) events
    pub text_is : raw_text pieces ≡ text_of_events events

  events_within : (most n : ℕ) (pieces : List RawLine) → length pieces ≤ most → fault_from format counties [] n pieces ≡ None → Spelled pieces
  events_within most n [] few h = record { events = []; fit = tt; text_is = refl }
  events_within zero n (piece ∷ pieces) few h = absurd (omega (arith, few))
  events_within (suc most) n (piece ∷ pieces) few h = go (λ m rest l e. events_within most m rest l e) (by_words event_on piece) refl h
    where
      go : ((m : ℕ) (rest : List RawLine) → length rest ≤ most → fault_from format counties [] m rest ≡ None → Spelled rest)
          → (r : Result EventLine TextKind) → by_words event_on piece ≡ r
          → by_first format counties n pieces r ≡ None → Spelled (piece ∷ pieces)
      go next (Err kind) e k = cc (k)
      go next (Ok line) e k =
          let read = event_read piece line e in
          let behind = items_behind (wanted_by format counties line) (n + 1) pieces k in
          let one = event_found line behind.items behind.fit in
          let later = next behind.number behind.rest (omega (arith, few, behind.fewer)) behind.no_fault in
          let spelled : text_of_event one.event ≡ event_line line ++ text_of_items behind.items =
          ap (λ (l : EventLine). event_line l ++ text_of_items (items_of one.event)) one.line_is
          ∙ ap (λ (l : List Item). event_line line ++ text_of_items l) one.items_are in
          record {
            events = one.event ∷ later.events;
            fit = (
              record {
                line = subst FitsLine (sym one.line_is) read.fits;
                items = subst (λ (l : EventLine). AllFit (wanted_by format counties l) (items_of one.event)) (sym one.line_is)
                    (subst (AllFit (wanted_by format counties line)) (sym one.items_are) behind.fit);
                form = one.form;
              },
              later.fit,
            );
            text_is = ap (λ (t : List ℕ). t ++ raw_text pieces) read.bytes ∙ ap (λ (t : List ℕ). event_line line ++ t) behind.text_is
                ∙ sym (append_assoc (event_line line) (text_of_items behind.items) (raw_text behind.rest))
                ∙ ap (λ (t : List ℕ). t ++ raw_text behind.rest) (sym spelled) ∙ ap (λ (t : List ℕ). text_of_event one.event ++ t) later.text_is;
          }

  pub some_list : (text : List ℕ) → events_fault format counties text ≡ None → (es : List Event) × EventsAreSpelled format counties text es
  some_list text h =
      let found = events_within (length (raw_lines text)) 1 (raw_lines text) (omega arith) h in
      (found.events, record { fit = found.fit; text_is = sym (text_of-raw_lines 1 text) ∙ found.text_is })
