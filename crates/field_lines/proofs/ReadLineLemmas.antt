-- A line is taken: the blank ones before it add nothing.
use Rattle.std.proofs.Common.{◌≡◌, ℕ, ◌+◌, ◌≤◌, ◌==◌, Bool, true, false, List, [], ◌∷◌, ◌++◌, length, nat_lt, Option, Some, None, Result, Ok, Err, take, refl, sym, ap, ◌∙◌, append_assoc, arith, subst, if◌then◌else◌}
use Rattle.std.specs.Borrow.{Bor}
use Rattle.std.proofs.lemmas.List.{append-nil}
use Rattle.std.proofs.lemmas.Bool.Decides.{nat_tests}
use Rattle.field_lines.specs.RawPieces.{raw_lines_from}
use Rattle.field_lines.specs.Fault.{most_lines, most_bytes}
use Rattle.field_lines.specs.Cut.{Line, cut_of, fault_at, line_bytes, in_front, line_of}
use Rattle.field_lines.specs.Source.{Given}
use Rattle.field_lines.specs.HeldBytes.{Pulled, MayCome, StaysEnded, Pulls}
use Rattle.field_lines.specs.Front.{IsFrontPiece}
use Rattle.field_lines.specs.TakenPieces.{taken_bytes, piece_at, line_at, TakesFirst}
use Rattle.field_lines.specs.LinesFrom.{no_line, LinesHeld, lines_held, IsNextFrom, AnswersRead, IsNextRead, fault_answered, line_answered, IsAtLine}
use Rattle.field_lines.specs.ReadLine.{pieces_held, TakesPiece, TakesLine}
use Rattle.field_lines.specs.declared.fault.LineFault.{LineFault}
use Rattle.field_lines.specs.declared.fault.LineFault.TheVariants.{LineTooLong, TooManyLines, ReadFault, Memory}
use Rattle.field_lines.specs.declared.taken_pieces.TakenPiece.{TakenPiece}
use Rattle.field_lines.specs.declared.taken_pieces.TakenLine.{TakenLine}
use Rattle.field_lines.proofs.FrontLemmas.{front_faulty}
use Rattle.field_lines.proofs.CutLemmas.{cut_of-line_next, cut_of-blank_next}

at_fault_by : (P : LineFault → Type 0) (n : ℕ) (f : LineFault) (b d : Bool) → P TooManyLines → P (LineTooLong n) → (if b then Some TooManyLines else if d then Some (LineTooLong n) else None) ≡ Some f → P f
at_fault_by P n f true d many long is = let same : TooManyLines ≡ f = cc in subst P same many
at_fault_by P n f false true many long is = let same : LineTooLong n ≡ f = cc in subst P same long
at_fault_by P n f false false many long is = absurd cc

-- a piece has no fault but these
pub at_fault : (P : LineFault → Type 0) (n : ℕ) (bytes : List ℕ) (f : LineFault) → fault_at n bytes ≡ Some f → P TooManyLines → P (LineTooLong n) → P f
at_fault P n bytes f is many long = at_fault_by P n f (nat_lt most_lines n) (nat_lt most_bytes (length bytes)) many long is

sound_short : (n : ℕ) (bytes : List ℕ) → fault_at n bytes ≡ None → length bytes ≤ most_bytes
sound_short n bytes is = grind (arith, nat_tests)

-- what may come after the later pull may come after the earlier one
pub may_come : {before after : Bool} {pulled later : List ℕ} → StaysEnded before pulled after → MayCome after later → MayCome before (pulled ++ later)
may_come {before} {after} {pulled} {later} stays may = λ is.
    let end = stays is in
    ap (λ (l : List ℕ). l ++ later) end.0 ∙ may end.1

-- a piece at the front is at fault
pub piece_faulty : (n : ℕ) (old new : Pulled) (g h : Given) (d e lf : Bool) (count : ℕ) (fault : LineFault) → Pulls g h old new → IsFrontPiece new.bytes h.ended count lf → (d ≡ false → e ≡ false)
    → fault_at n (take count new.bytes) ≡ Some fault → TakesPiece n old g d (Err fault) new h e
piece_faulty n old new g h d e lf count fault pulls front ok is =
    let faulty : (f : LineFault) → fault_at n (take count new.bytes) ≡ Some f → (later : List ℕ) → cut_of (pieces_held n old (pulls.pulled ++ later)) ≡ no_line (Some f) =
    λ (f : LineFault) (at : fault_at n (take count new.bytes) ≡ Some f) (later : List ℕ).
    ap (λ (l : List ℕ). cut_of (raw_lines_from n l)) (sym (append_assoc old.bytes pulls.pulled later) ∙ ap (λ (l : List ℕ). l ++ later) (sym pulls.held))
    ∙ front_faulty new.bytes h.ended lf count n f front at later in
    at_fault (λ (f : LineFault). fault_at n (take count new.bytes) ≡ Some f → TakesPiece n old g d (Err f) new h e) n (take count new.bytes) fault is
    (λ at. record { pulled = pulls.pulled; given = pulls.given; end = pulls.end; answers = faulty TooManyLines at; failed = ok })
    (λ at. record { pulled = pulls.pulled; given = pulls.given; end = pulls.end; answers = faulty (LineTooLong n) at; failed = ok })
    is

-- a piece is taken, whose place, bytes and successors are these
module _ (n : ℕ) (old mid new : Pulled) (g h : Given) (t : TakenPiece) (pulls : Pulls g h old mid) (first : TakesFirst h.ended mid.bytes new t) where
  pub taken_first : (later : List ℕ) → MayCome h.ended later → pieces_held n old (pulls.pulled ++ later) ≡ piece_at n new t ∷ pieces_held (n + 1) new later
  taken_first later may =
      ap (raw_lines_from n) (sym (append_assoc old.bytes pulls.pulled later) ∙ ap (λ (l : List ℕ). l ++ later) (sym pulls.held)) ∙ first n later may

-- from the first pull on, only blank lines were taken
pub record SkipsBlank (first : ℕ) (old : Pulled) (given_before : Given) (failed_before : Bool) (number : ℕ) (now : Pulled) (given_now : Given) (failed_now : Bool) : Type 0 where
  pub pulled : List ℕ
  pub given : given_now.bytes ≡ given_before.bytes ++ pulled
  pub end : StaysEnded given_before.ended pulled given_now.ended
  pub same : (later : List ℕ) → MayCome given_now.ended later → cut_of (pieces_held first old (pulled ++ later)) ≡ cut_of (pieces_held number now later)
  pub sound : failed_before ≡ false → failed_now ≡ false

pub skips_none : (n : ℕ) (old : Pulled) (given : Given) (failed : Bool) → SkipsBlank n old given failed n old given failed
skips_none n old given failed = record { pulled = []; given = sym (append-nil given.bytes); end = λ is. (refl, is); same = λ later may. refl; sound = λ is. is }

module _ (first number : ℕ) (old now new : Pulled) (g h i : Given) (d e f : Bool) (s : SkipsBlank first old g d number now h e) where
  both_given : (pulled : List ℕ) → i.bytes ≡ h.bytes ++ pulled → i.bytes ≡ g.bytes ++ (s.pulled ++ pulled)
  both_given pulled is = is ∙ ap (λ (l : List ℕ). l ++ pulled) s.given ∙ append_assoc g.bytes s.pulled pulled

  both_end : (pulled : List ℕ) → StaysEnded h.ended pulled i.ended → StaysEnded g.ended (s.pulled ++ pulled) i.ended
  both_end pulled stays = λ is.
      let one = s.end is in
      let two = stays one.1 in
      (ap (λ (l : List ℕ). l ++ pulled) one.0 ∙ two.0, two.1)

  both_same : (pulled later : List ℕ) → StaysEnded h.ended pulled i.ended → MayCome i.ended later
      → cut_of (pieces_held first old ((s.pulled ++ pulled) ++ later)) ≡ cut_of (pieces_held number now (pulled ++ later))
  both_same pulled later stays may =
      ap (λ (l : List ℕ). cut_of (pieces_held first old l)) (append_assoc s.pulled pulled later)
      ∙ s.same (pulled ++ later) (may_come stays may)

  module _ (t : TakenPiece) (p : TakesPiece number now h e (Ok (Some t)) new i f) where
    -- a blank line more
    pub skips_blank : (line : List ℕ) → line ≡ line_bytes number (taken_bytes new t) → true ≡ (length line == 0) → SkipsBlank first old g d (number + 1) new i f
    skips_blank line is blank = record {
      pulled = s.pulled ++ p.pulled;
      given = both_given p.pulled p.given;
      end = both_end p.pulled p.end;
      same = λ later may.
          both_same p.pulled later p.end may
          ∙ sym (cut_of-blank_next (cut_of (pieces_held number now (p.pulled ++ later))) (pieces_held number now (p.pulled ++ later)) number (taken_bytes new t) t.ended (pieces_held (number + 1) new later) line refl (p.answers.2 later may) p.answers.1 is blank);
      sound = λ ok. p.failed (s.sound ok);
    }

    -- a line that isn't blank
    pub takes_line : (line : List ℕ) → line ≡ line_bytes number (taken_bytes new t) → false ≡ (length line == 0)
        → TakesLine first old g d (Ok (Some (record { number = number; from = t.from; to = t.to }))) (number + 1) new i f
    takes_line line is some = record {
      pulled = s.pulled ++ p.pulled;
      given = both_given p.pulled p.given;
      end = both_end p.pulled p.end;
      answers = λ later may.
          both_same p.pulled later p.end may
          ∙ cut_of-line_next (cut_of (pieces_held number now (p.pulled ++ later))) (pieces_held number now (p.pulled ++ later)) number (taken_bytes new t) t.ended (pieces_held (number + 1) new later) line refl (p.answers.2 later may) p.answers.1 is some
          ∙ ap (λ (l : List ℕ). in_front (record { number = number; bytes = l }) (cut_of (pieces_held (number + 1) new later))) is;
      failed = λ ok. p.failed (s.sound ok);
      place = (p.answers.0, refl, subst (λ (l : List ℕ). 1 ≤ length l) is (grind (arith, nat_tests)), sound_short number (taken_bytes new t) p.answers.1);
      read_fault = tt;
    }

  -- no further line
  pub takes_none : TakesPiece number now h e (Ok None) new i f → TakesLine first old g d (Ok None) number new i f
  takes_none p = record {
    pulled = s.pulled ++ p.pulled;
    given = both_given p.pulled p.given;
    end = both_end p.pulled p.end;
    answers = (
      p.answers.0,
      ap (λ (l : List ℕ). cut_of (pieces_held first old l)) (sym (append-nil (s.pulled ++ p.pulled)))
          ∙ both_same p.pulled [] p.end (λ is. refl)
          ∙ ap (λ (l : List ℕ). cut_of (raw_lines_from number l)) (ap (λ (l : List ℕ). now.bytes ++ l) (append-nil p.pulled) ∙ p.answers.1),
      ap (λ (l : List ℕ). cut_of (raw_lines_from number (l ++ []))) p.answers.2,
    );
    failed = λ ok. p.failed (s.sound ok);
    place = tt;
    read_fault = tt;
  }

  -- a fault
  pub takes_fault : (fault : LineFault) → TakesPiece number now h e (Err fault) new i f → TakesLine first old g d (Err fault) number new i f
  takes_fault (LineTooLong line) p = record {
    pulled = s.pulled ++ p.pulled;
    given = both_given p.pulled p.given;
    end = both_end p.pulled p.end;
    answers = λ later may. both_same p.pulled later p.end may ∙ p.answers later;
    failed = λ ok. p.failed (s.sound ok);
    place = tt;
    read_fault = tt;
  }
  takes_fault TooManyLines p = record {
    pulled = s.pulled ++ p.pulled;
    given = both_given p.pulled p.given;
    end = both_end p.pulled p.end;
    answers = λ later may. both_same p.pulled later p.end may ∙ p.answers later;
    failed = λ ok. p.failed (s.sound ok);
    place = tt;
    read_fault = tt;
  }
  takes_fault (ReadFault line) p = record {
    pulled = s.pulled ++ p.pulled;
    given = both_given p.pulled p.given;
    end = both_end p.pulled p.end;
    answers = tt;
    failed = p.failed;
    place = tt;
    read_fault = p.answers;
  }
  takes_fault Memory p = absurd p.answers

-- an answer of a reader that has answered no fault so far
pub reads_next : (old new : LinesHeld) (g h : Given) (d e : Bool) (answer : Result (Option (ℕ × Bor (List ℕ))) LineFault) → old.fault ≡ None
    → IsNextFrom (lines_held old) g d (line_answered answer) (lines_held new) h e → new.fault ≡ fault_answered answer → IsAtLine answer new.number → IsNextRead old g d answer new h e
reads_next old new g h d e answer sound next fault at = subst (λ (o : Option LineFault). AnswersRead o old g d answer new h e) (sym sound) (next, fault, at)

module _ (number number_after : ℕ) (old new : Pulled) (fault : Option LineFault) (g h : Given) (d e : Bool) (none : fault ≡ None) where
  abbrev before : LinesHeld
  before = record { bytes = old.bytes; number = number; fault = fault }

  abbrev after : LinesHeld
  after = record { bytes = new.bytes; number = number_after; fault = fault }

  -- a line was taken
  pub reads_line : (t : TakenLine) (r : ℕ × Bor (List ℕ)) → TakesLine number old g d (Ok (Some t)) number_after new h e → number ≤ t.number → number_after ≤ most_lines + 1 → line_of r ≡ line_at new t
      → IsNextRead before g d (Ok (Some r)) after h e
  reads_line t r takes from few is =
      let step : t.number + 1 ≡ number_after = takes.place.1 in
      reads_next before after g h d e (Ok (Some r)) none (record {
        pulled = takes.pulled;
        given = takes.given;
        end = takes.end;
        answers = λ later may. takes.answers later may ∙ ap (λ (l : Line). in_front l (cut_of (pieces_held number_after new later))) (sym is);
        failed = takes.failed;
        sound = none;
        fewer = omega arith;
      }) none tt

  -- no line is left
  pub reads_none : TakesLine number old g d (Ok None) number_after new h e → IsNextRead before g d (Ok None) after h e
  reads_none takes = reads_next before after g h d e (Ok None) none (record {
    pulled = takes.pulled;
    given = takes.given;
    end = takes.end;
    answers = takes.answers;
    failed = takes.failed;
    sound = none;
    fewer = tt;
  }) none tt
