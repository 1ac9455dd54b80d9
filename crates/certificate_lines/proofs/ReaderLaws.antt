-- Items that are read from a source.
use Rattle.std.proofs.Common.{◌≡◌, ℕ, ◌+◌, Bool, List, [], ◌∷◌, ◌++◌, length, drop, reverse, Option, Some, None, Result, Ok, Err, refl, ap, sym, subst, ◌∙◌, append_assoc, append-nil, inl, inr}
use Rattle.std.proofs.Math.Seq.{drop-append_seam}
use Rattle.field_lines.specs.RawPieces.{RawLine, raw_lines_from}
use Rattle.field_lines.specs.TextPiece.{raw_of}
use Rattle.field_lines.specs.Source.{Given}
use Rattle.field_lines.specs.HeldBytes.{StaysEnded}
use Rattle.field_lines.specs.LinesFrom.{LinesHeld}
use Rattle.field_lines.specs.PiecesFrom.{pieces_left, BeginsTooLong, IsNextPieceFrom, IsRawRead, AnswersRaw}
use Rattle.field_lines.proofs.ReadLineLemmas.{may_come}
use Rattle.field_lines.specs.declared.raw_pieces.TextPiece.{TextPiece}
use Rattle.field_lines.specs.declared.fault.LineFault.{LineFault}
use Rattle.field_lines.specs.declared.fault.LineFault.TheVariants as of_line
use Rattle.certificate_lines.specs.Rest.{text_fault_at}
use Rattle.certificate_lines.specs.Items.{item_on, wanted_after}
use Rattle.certificate_lines.specs.ItemReadings.{only_fault, first, reading_from}
use Rattle.certificate_lines.specs.ItemsLeft.{ItemsLeft, left_at, unless_found, Foresees, ReadsItem, ReadsEnd, ReadsNext, IsNextItemOf, fault_of_reader}
use Rattle.certificate_lines.specs.declared.fault.TextKind.TheVariants.{CutShort, AfterEnd, BadWord, Memory}
use Rattle.certificate_lines.specs.declared.fault.TextFault.{TextFault}
use Rattle.certificate_lines.specs.declared.item.Item.{Item}
use Rattle.certificate_lines.specs.declared.item.Wanted.{Wanted}
use Rattle.certificate_lines.proofs.ItemReadingLaws.{reading_first, reading_fault, too_long}

-- What a source gave is in front of what it gives then.
pub record Goes (before after : Given) (pulled all later : List ℕ) : Type 0 where
  pub back : Foresees before all
  pub was : drop (length before.bytes) all ≡ pulled ++ later
  pub is : drop (length after.bytes) all ≡ later

pub goes : (before after : Given) (pulled all : List ℕ) → after.bytes ≡ before.bytes ++ pulled → StaysEnded before.ended pulled after.ended → (sees : Foresees after all) → Goes before after pulled all sees.later
goes before after pulled all gave end sees =
    let split : all ≡ before.bytes ++ (pulled ++ sees.later) = sees.text ∙ ap (λ (t : List ℕ). t ++ sees.later) gave ∙ append_assoc before.bytes pulled sees.later in
    record {
      back = record { later = pulled ++ sees.later; text = split; may = may_come {before = before.ended} {after = after.ended} {pulled = pulled} {later = sees.later} end sees.may };
      was = ap (drop (length before.bytes)) split ∙ drop-append_seam before.bytes (pulled ++ sees.later);
      is = ap (drop (length after.bytes)) sees.text ∙ drop-append_seam after.bytes sees.later;
    }

-- the pieces of a reader, by the bytes that come later
abbrev pieces : LinesHeld → List ℕ → List RawLine
pieces h later = raw_lines_from h.number (h.bytes ++ later)

-- a line, where something is wanted and where the end is wanted
long_line : (w : Wanted) (more : List Wanted) (n number : ℕ) (lines : List RawLine) → BeginsTooLong number lines → reading_from (w ∷ more) n lines ≡ only_fault (text_fault_at BadWord n)
long_line w more n number [] long = absurd long
long_line w more n number (p ∷ ps) long = reading_fault w more n p ps BadWord (too_long w p long.1)

long_end : (n number : ℕ) (lines : List RawLine) → BeginsTooLong number lines → reading_from [] n lines ≡ only_fault (text_fault_at AfterEnd n)
long_end n number [] long = absurd long
long_end n number (p ∷ ps) long = refl

module _ (old new : LinesHeld) (before after : Given) (failed failed_then : Bool) where
  module _ (w : Wanted) (below : List Wanted) (number : ℕ) where
    pub read_found : (p : TextPiece) → IsNextPieceFrom (pieces_left old) before failed (Ok (Some p)) (pieces_left new) after failed_then
        → (item : Item) (stack : List Wanted) → item_on w (raw_of p) ≡ Ok item → reverse stack ≡ wanted_after w item ++ reverse below
        → ReadsItem (left_at (w ∷ reverse below) number old) before (Ok item) (left_at (reverse stack) (number + 1) new) after
    read_found p next item stack e stacked all sees =
        let g = goes before after next.pulled all next.given next.end sees in (
          g.back,
          ap (λ (t : List ℕ). reading_from (w ∷ reverse below) number (pieces old t)) g.was
              ∙ ap (reading_from (w ∷ reverse below) number) (next.answers sees.later sees.may)
              ∙ reading_first w (reverse below) number (raw_of p) (pieces new sees.later) item e
              ∙ ap (λ (l : List Wanted). first item (reading_from l (number + 1) (pieces new sees.later))) (sym stacked)
              ∙ ap (λ (t : List ℕ). first item (reading_from (reverse stack) (number + 1) (pieces new t))) (sym g.is),
        )

    pub read_wrong : (p : TextPiece) → IsNextPieceFrom (pieces_left old) before failed (Ok (Some p)) (pieces_left new) after failed_then
        → (fault : TextFault) (then : List Wanted) (m : ℕ) → ((fault.kind ≡ Memory → ⊥) → item_on w (raw_of p) ≡ Err fault.kind) → fault.line ≡ number
        → ReadsItem (left_at (w ∷ reverse below) number old) before (Err fault) (left_at then m new) after
    read_wrong p next fault then m e line all sees =
        let g = goes before after next.pulled all next.given next.end sees in (
          g.back,
          λ unread.
              ap (λ (t : List ℕ). reading_from (w ∷ reverse below) number (pieces old t)) g.was
              ∙ ap (reading_from (w ∷ reverse below) number) (next.answers sees.later sees.may)
              ∙ reading_fault w (reverse below) number (raw_of p) (pieces new sees.later) fault.kind (e (λ memory. unread (inl memory)))
              ∙ ap (λ (n : ℕ). only_fault (text_fault_at fault.kind n)) (sym line),
        )

    pub read_short : IsNextPieceFrom (pieces_left old) before failed (Ok None) (pieces_left new) after failed_then
        → (then : List Wanted) (m : ℕ) → ReadsItem (left_at (w ∷ reverse below) number old) before (Err (text_fault_at CutShort number)) (left_at then m new) after
    read_short next then m all sees =
        let g = goes before after next.pulled all next.given next.end sees in
        let none : next.pulled ++ sees.later ≡ next.pulled = ap (λ (t : List ℕ). next.pulled ++ t) (sees.may next.answers.0) ∙ append-nil next.pulled in (
          g.back,
          λ unread.
              ap (λ (t : List ℕ). reading_from (w ∷ reverse below) number (pieces old t)) (g.was ∙ none)
              ∙ ap (reading_from (w ∷ reverse below) number) next.answers.1,
        )

    pub read_off : (fault : LineFault) → IsNextPieceFrom (pieces_left old) before failed (Err fault) (pieces_left new) after failed_then
        → (then : List Wanted) (m : ℕ) → ReadsItem (left_at (w ∷ reverse below) number old) before (Err (fault_of_reader fault BadWord number)) (left_at then m new) after
    read_off (of_line.LineTooLong found) next then m all sees =
        let g = goes before after next.pulled all next.given next.end sees in (
          g.back,
          λ unread.
              ap (λ (t : List ℕ). reading_from (w ∷ reverse below) number (pieces old t)) g.was
              ∙ long_line w (reverse below) number found (pieces old (next.pulled ++ sees.later)) (next.answers sees.later sees.may),
        )
    read_off (of_line.ReadFault found) next then m all sees = ((goes before after next.pulled all next.given next.end sees).back, λ unread. absurd (unread (inr refl)))
    read_off of_line.Memory next then m all sees = ((goes before after next.pulled all next.given next.end sees).back, λ unread. absurd (unread (inl refl)))
    read_off of_line.TooManyLines next then m all sees = absurd next.answers

  module _ (number : ℕ) where
    pub end_found : IsNextPieceFrom (pieces_left old) before failed (Ok None) (pieces_left new) after failed_then
        → (done : Unit {0}) → ReadsEnd (left_at [] number old) before (Ok done) (left_at [] number new) after
    end_found next done all sees =
        let g = goes before after next.pulled all next.given next.end sees in
        let later : sees.later ≡ [] = sees.may next.answers.0 in
        let none : next.pulled ++ sees.later ≡ next.pulled = ap (λ (t : List ℕ). next.pulled ++ t) later ∙ append-nil next.pulled in (
          g.back,
          (
            ap (λ (t : List ℕ). reading_from [] number (pieces old t)) (g.was ∙ none) ∙ ap (reading_from [] number) next.answers.1,
            ap (λ (t : List ℕ). reading_from [] number (pieces new t)) (g.is ∙ later) ∙ ap (reading_from [] number) next.answers.2,
          ),
        )

    pub end_passed : (p : TextPiece) → IsNextPieceFrom (pieces_left old) before failed (Ok (Some p)) (pieces_left new) after failed_then
        → ReadsEnd (left_at [] number old) before (Err (text_fault_at AfterEnd number)) (left_at [] number new) after
    end_passed p next all sees =
        let g = goes before after next.pulled all next.given next.end sees in (
          g.back,
          λ unread. ap (λ (t : List ℕ). reading_from [] number (pieces old t)) g.was ∙ ap (reading_from [] number) (next.answers sees.later sees.may),
        )

    pub end_off : (fault : LineFault) → IsNextPieceFrom (pieces_left old) before failed (Err fault) (pieces_left new) after failed_then
        → ReadsEnd (left_at [] number old) before (Err (fault_of_reader fault AfterEnd number)) (left_at [] number new) after
    end_off (of_line.LineTooLong found) next all sees =
        let g = goes before after next.pulled all next.given next.end sees in (
          g.back,
          λ unread.
              ap (λ (t : List ℕ). reading_from [] number (pieces old t)) g.was
              ∙ long_end number found (pieces old (next.pulled ++ sees.later)) (next.answers sees.later sees.may),
        )
    end_off (of_line.ReadFault found) next all sees = ((goes before after next.pulled all next.given next.end sees).back, λ unread. absurd (unread (inr refl)))
    end_off of_line.Memory next all sees = ((goes before after next.pulled all next.given next.end sees).back, λ unread. absurd (unread (inl refl)))
    end_off of_line.TooManyLines next all sees = absurd next.answers

  -- a reader that has answered no fault
  pub raw_next : (answer : Result (Option TextPiece) LineFault) → IsRawRead old before failed answer new after failed_then → old.fault ≡ None
      → AnswersRaw None old before failed answer new after failed_then
  raw_next answer raw sound = subst (λ (f : Option LineFault). AnswersRaw f old before failed answer new after failed_then) sound raw

next_same : (old new : ItemsLeft) (before after : Given) (next : Option Item) → ReadsNext old before (Ok next) new after → IsNextItemOf old before (Ok next) new after
next_same old new before after None h = h
next_same old new before after (Some item) h = h

-- a call keeps its fault
module _ (old new : ItemsLeft) (before after : Given) (found : Option TextFault) (none : found ≡ None) (answer : Result (Option Item) TextFault) (read : ReadsNext old before answer new after) where
  pub next_fault : (fault : TextFault) → answer ≡ Err fault → IsNextItemOf (unless_found old found) before answer (unless_found new (Some fault)) after
  next_fault fault e =
      let kept : IsNextItemOf old before (Err fault) (unless_found new (Some fault)) after = λ all sees.
      let h = subst (λ (r : Result (Option Item) TextFault). ReadsNext old before r new after) e read all sees in (h.0, (h.1, refl)) in
      subst (λ (f : Option TextFault). IsNextItemOf (unless_found old f) before answer (unless_found new (Some fault)) after) (sym none)
      (subst (λ (r : Result (Option Item) TextFault). IsNextItemOf old before r (unless_found new (Some fault)) after) (sym e) kept)

  pub next_found : (next : Option Item) → answer ≡ Ok next → IsNextItemOf (unless_found old found) before answer (unless_found new found) after
  next_found next e =
      subst (λ (f : Option TextFault). IsNextItemOf (unless_found old f) before answer (unless_found new f) after) (sym none)
      (subst (λ (r : Result (Option Item) TextFault). IsNextItemOf old before r new after) (sym e)
      (next_same old new before after next (subst (λ (r : Result (Option Item) TextFault). ReadsNext old before r new after) e read)))
