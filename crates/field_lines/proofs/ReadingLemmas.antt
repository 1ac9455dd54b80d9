-- A loop that reads lines of any source: what it comes to on what is left is what the whole text comes to.
use Rattle.std.proofs.Common.{◌≡◌, ℕ, Bool, true, false, List, [], ◌++◌, Some, None, Ok, Err, sym, ap, ◌∙◌, append_assoc}
use Rattle.std.specs.Borrow.{Bor}
use Rattle.std.proofs.lemmas.List.{append-nil}
use Rattle.field_lines.specs.Fault.{IsOfText}
use Rattle.field_lines.specs.Cut.{Cut, in_front, line_of}
use Rattle.field_lines.specs.Source.{Given}
use Rattle.field_lines.specs.HeldBytes.{MayCome, StaysEnded}
use Rattle.field_lines.specs.LinesFrom.{LinesLeft, no_line, IsNextAnswer}
use Rattle.field_lines.specs.declared.fault.LineFault.{LineFault}
use Rattle.field_lines.specs.declared.fault.LineFault.TheVariants.{LineTooLong, TooManyLines, ReadFault, Memory}
use Rattle.field_lines.proofs.ReadLineLemmas.{may_come}

-- what a loop has read of a text that `Whole` says: on what is left it comes to what `Now` says
pub record ReadsOn {R : Type 0} (start : LinesLeft) (given_start : Given) (Whole : Cut → R) (now : LinesLeft) (given_now : Given) (failed : Bool) (Now : Cut → R) : Type 0 where
  pub pulled : List ℕ
  pub given : given_now.bytes ≡ given_start.bytes ++ pulled
  pub sound : now.fault ≡ None
  pub works : failed ≡ false
  pub same : (later : List ℕ) → MayCome given_now.ended later → Now (now.cut later) ≡ Whole (start.cut (pulled ++ later))

-- nothing is read so far
pub reads_start : {R : Type 0} (start : LinesLeft) (given : Given) (failed : Bool) (Whole Now : Cut → R) → start.fault ≡ None → failed ≡ false → ((c : Cut) → Now c ≡ Whole c)
    → ReadsOn start given Whole start given failed Now
reads_start start given failed Whole Now sound works same = record { pulled = []; given = sym (append-nil given.bytes); sound = sound; works = works; same = λ later may. same (start.cut later) }

module _ {R : Type 0} (start now new : LinesLeft) (g h i : Given) (d e : Bool) (Whole Now : Cut → R) (s : ReadsOn start g Whole now h d Now) where
  both_given : (pulled : List ℕ) → i.bytes ≡ h.bytes ++ pulled → i.bytes ≡ g.bytes ++ (s.pulled ++ pulled)
  both_given pulled is = is ∙ ap (λ (l : List ℕ). l ++ pulled) s.given ∙ append_assoc g.bytes s.pulled pulled

  both_same : (pulled later : List ℕ) → StaysEnded h.ended pulled i.ended → MayCome i.ended later → Now (now.cut (pulled ++ later)) ≡ Whole (start.cut ((s.pulled ++ pulled) ++ later))
  both_same pulled later stays may = s.same (pulled ++ later) (may_come stays may) ∙ ap (λ (l : List ℕ). Whole (start.cut l)) (sym (append_assoc s.pulled pulled later))

  -- what each text comes to, under a condition, that begins with the bytes which were pulled up to now
  pub record Comes (P : Type 0) (value : R) : Type 0 where
    pub pulled : List ℕ
    pub given : i.bytes ≡ g.bytes ++ pulled
    pub is : P → (later : List ℕ) → MayCome i.ended later → Whole (start.cut (pulled ++ later)) ≡ value

  module _ (r : ℕ × Bor (List ℕ)) (next : IsNextAnswer now h d (Ok (Some r)) new i e) where
    -- a line is added
    pub reads_more : (Next : Cut → R) → ((c : Cut) → Now (in_front (line_of r) c) ≡ Next c) → ReadsOn start g Whole new i e Next
    reads_more Next adds =
        let n = next s.sound in
        record {
          pulled = s.pulled ++ n.pulled;
          given = both_given n.pulled n.given;
          sound = n.sound;
          works = n.failed s.works;
          same = λ later may. sym (adds (new.cut later)) ∙ sym (ap Now (n.answers later may)) ∙ both_same n.pulled later n.end may;
        }

    -- the line ends the reading
    pub reads_stop : (P : Type 0) (value : R) → (P → (c : Cut) → Now (in_front (line_of r) c) ≡ value) → Comes P value
    reads_stop P value ends =
        let n = next s.sound in
        record {
          pulled = s.pulled ++ n.pulled;
          given = both_given n.pulled n.given;
          is = λ p later may. sym (both_same n.pulled later n.end may) ∙ ap Now (n.answers later may) ∙ ends p (new.cut later);
        }

    pub works_more : e ≡ false
    works_more = (next s.sound).failed s.works

  -- no line is left
  pub reads_end : (P : Type 0) → IsNextAnswer now h d (Ok None) new i e → Comes P (Now (no_line None))
  reads_end P next =
      let n = next s.sound in
      record {
        pulled = s.pulled ++ n.pulled;
        given = both_given n.pulled n.given;
        is = λ p later may.
            let none : later ≡ [] = may n.answers.0 in
            sym (both_same n.pulled later n.end may)
            ∙ ap (λ (l : List ℕ). Now (now.cut (n.pulled ++ l))) none
            ∙ ap (λ (l : List ℕ). Now (now.cut l)) (append-nil n.pulled)
            ∙ ap Now n.answers.1;
      }

  pub works_end : IsNextAnswer now h d (Ok None) new i e → e ≡ false
  works_end next = (next s.sound).failed s.works

  -- the text has a fault
  pub reads_fault : (P : Type 0) (fault : LineFault) → IsOfText fault → IsNextAnswer now h d (Err fault) new i e → Comes P (Now (no_line (Some fault)))
  reads_fault P (LineTooLong line) of next =
      let n = next s.sound in
      record { pulled = s.pulled ++ n.pulled; given = both_given n.pulled n.given; is = λ p later may. sym (both_same n.pulled later n.end may) ∙ ap Now (n.answers later may) }
  reads_fault P TooManyLines of next =
      let n = next s.sound in
      record { pulled = s.pulled ++ n.pulled; given = both_given n.pulled n.given; is = λ p later may. sym (both_same n.pulled later n.end may) ∙ ap Now (n.answers later may) }
  reads_fault P (ReadFault line) of next = absurd of
  reads_fault P Memory of next = absurd of

  pub works_fault : (fault : LineFault) → IsOfText fault → IsNextAnswer now h d (Err fault) new i e → e ≡ false
  works_fault (LineTooLong line) of next = (next s.sound).failed s.works
  works_fault TooManyLines of next = (next s.sound).failed s.works
  works_fault (ReadFault line) of next = absurd of
  works_fault Memory of next = absurd of

  -- a read failed
  pub fails_fault : (line : ℕ) → IsNextAnswer now h d (Err (ReadFault line)) new i e → e ≡ true
  fails_fault line next = (next s.sound).failed

  pub given_fault : (fault : LineFault) → IsNextAnswer now h d (Err fault) new i e → (pulled : List ℕ) × (i.bytes ≡ g.bytes ++ pulled)
  given_fault fault next = let n = next s.sound in (s.pulled ++ n.pulled, both_given n.pulled n.given)

  pub never_memory : IsNextAnswer now h d (Err Memory) new i e → ⊥
  never_memory next = (next s.sound).answers
