-- A piece is taken where only its length is limited.
use Rattle.std.proofs.Common.{◌≡◌, ℕ, ◌+◌, ◌-◌, ◌^◌, ◌<◌, ◌≤◌, ◌==◌, nat_lt, eqb-true, Bool, true, false, List, [], ◌∷◌, ◌++◌, length, Option, Some, None, Result, Ok, Err, refl, sym, ap, ◌∙◌, append_assoc, arith, subst, length-append, length-take-le, if◌then◌else◌}
use Rattle.std.proofs.lemmas.Bool.Decides.{nat_tests}
use Rattle.field_lines.specs.RawPieces.{RawLine, raw_lines_from}
use Rattle.field_lines.specs.TextPiece.{raw_of}
use Rattle.field_lines.specs.Fault.{most_bytes}
use Rattle.field_lines.specs.Source.{Given}
use Rattle.field_lines.specs.HeldBytes.{Pulled, Pulls}
use Rattle.field_lines.specs.Front.{IsFrontPiece}
use Rattle.field_lines.specs.TakenPieces.{piece_at}
use Rattle.field_lines.specs.ReadLine.{pieces_held}
use Rattle.field_lines.specs.LinesFrom.{LinesHeld, fault_answered, IsAtLine}
use Rattle.field_lines.specs.PiecesFrom.{BeginsTooLong, IsNextPieceFrom, pieces_left, AnswersRaw, IsRawRead, IsPastNumbers}
use Rattle.field_lines.specs.ReadPiece.{raw_fault_at, TakesRaw}
use Rattle.field_lines.specs.declared.fault.LineFault.{LineFault}
use Rattle.field_lines.specs.declared.fault.LineFault.TheVariants.{LineTooLong, Memory}
use Rattle.field_lines.specs.declared.raw_pieces.TextPiece.{TextPiece}
use Rattle.field_lines.specs.declared.taken_pieces.TakenPiece.{TakenPiece}
use Rattle.field_lines.proofs.FrontLemmas.{lf_first, begins_with}

-- the piece at the front is too long, whatever comes later
front_long : (bytes : List ℕ) (ended lf : Bool) (count n : ℕ) → IsFrontPiece bytes ended count lf → most_bytes < count → (later : List ℕ) → BeginsTooLong n (raw_lines_from n (bytes ++ later))
front_long bytes ended true count n is long later =
    let le : count ≤ length bytes = omega (arith, is.within) in
    subst (BeginsTooLong n) (sym (lf_first bytes count n later is)) (refl, omega (arith, long, length-take-le count bytes le))
front_long bytes ended false count n is long later =
    let begins = begins_with bytes n later is.no_lf (omega (arith, is.some, is.all)) in
    subst (BeginsTooLong n) (sym begins.is) (refl, omega (arith, long, is.all, length-append bytes begins.more))

raw_fault_by : (P : LineFault → Type 0) (n count : ℕ) (f : LineFault) (b d : Bool) → nat_lt most_bytes count ≡ b → (n == 2 ^ 64 - 1) ≡ d
    → (most_bytes < count → P (LineTooLong n)) → (n ≡ 2 ^ 64 - 1 → P Memory) → (if b then Some (LineTooLong n) else if d then Some Memory else None) ≡ Some f → P f
raw_fault_by P n count f true d test last long past is = let same : LineTooLong n ≡ f = cc in subst P same (long (grind (arith, nat_tests)))
raw_fault_by P n count f false true test last long past is = let same : Memory ≡ f = cc in subst P same (past (eqb-true n (2 ^ 64 - 1) last))
raw_fault_by P n count f false false test last long past is = absurd cc

raw_sound_by : (n count : ℕ) (b d : Bool) → nat_lt most_bytes count ≡ b → (n == 2 ^ 64 - 1) ≡ d → n < 2 ^ 64 → (if b then Some (LineTooLong n) else if d then Some Memory else None) ≡ None
    → (count ≤ most_bytes) × (n + 1 < 2 ^ 64)
raw_sound_by n count true d test last low is = absurd cc
raw_sound_by n count false true test last low is = absurd cc
raw_sound_by n count false false test last low is = (grind (arith, nat_tests), grind (arith, nat_tests))

-- a piece without a fault isn't too long, and its number isn't the last
pub raw_sound : (n count : ℕ) → n < 2 ^ 64 → raw_fault_at n count ≡ None → (count ≤ most_bytes) × (n + 1 < 2 ^ 64)
raw_sound n count low is = raw_sound_by n count (nat_lt most_bytes count) (n == 2 ^ 64 - 1) refl refl low is

-- a piece at the front is at fault
pub raw_faulty : (n : ℕ) (old new : Pulled) (g h : Given) (d e lf : Bool) (count : ℕ) (fault : LineFault) → Pulls g h old new → IsFrontPiece new.bytes h.ended count lf → (d ≡ false → e ≡ false)
    → raw_fault_at n count ≡ Some fault → TakesRaw n old g d (Err fault) new h e
raw_faulty n old new g h d e lf count fault pulls front ok is =
    let begins : most_bytes < count → (later : List ℕ) → BeginsTooLong n (pieces_held n old (pulls.pulled ++ later)) =
    λ (long : most_bytes < count) (later : List ℕ).
    subst (λ (l : List ℕ). BeginsTooLong n (raw_lines_from n l)) (ap (λ (l : List ℕ). l ++ later) pulls.held ∙ append_assoc old.bytes pulls.pulled later)
    (front_long new.bytes h.ended lf count n front long later) in
    raw_fault_by (λ (f : LineFault). TakesRaw n old g d (Err f) new h e) n count fault (nat_lt most_bytes count) (n == 2 ^ 64 - 1) refl refl
    (λ long. record { pulled = pulls.pulled; given = pulls.given; end = pulls.end; answers = (refl, begins long); failed = ok })
    (λ past. record { pulled = pulls.pulled; given = pulls.given; end = pulls.end; answers = past; failed = ok })
    is

-- an answer of a reader that has answered no fault so far
reads_next : (old new : LinesHeld) (g h : Given) (d e : Bool) (answer : Result (Option TextPiece) LineFault) → old.fault ≡ None
    → IsNextPieceFrom (pieces_left old) g d answer (pieces_left new) h e → new.fault ≡ fault_answered answer → IsAtLine answer new.number → IsPastNumbers answer new.number → IsRawRead old g d answer new h e
reads_next old new g h d e answer sound next fault at past = subst (λ (o : Option LineFault). AnswersRaw o old g d answer new h e) (sym sound) (next, fault, at, past)

module _ (number : ℕ) (old new : Pulled) (fault : Option LineFault) (g h : Given) (d e : Bool) (none : fault ≡ None) where
  abbrev before : LinesHeld
  before = record { bytes = old.bytes; number = number; fault = fault }

  abbrev after : ℕ → LinesHeld
  after n = record { bytes = new.bytes; number = n; fault = fault }

  -- a piece was taken
  pub reads_piece : (t : TakenPiece) (p : TextPiece) → TakesRaw number old g d (Ok (Some t)) new h e → raw_of p ≡ piece_at number new t → IsRawRead before g d (Ok (Some p)) (after (number + 1)) h e
  reads_piece t p takes is =
      let more : number + 1 < 2 ^ 64 = takes.answers.2 in
      reads_next before (after (number + 1)) g h d e (Ok (Some p)) none (record {
        pulled = takes.pulled;
        given = takes.given;
        end = takes.end;
        answers = λ later may. takes.answers.3 later may ∙ ap (λ (q : RawLine). q ∷ pieces_held (number + 1) new later) (sym is);
        failed = takes.failed;
        sound = none;
        fewer = omega (arith, more);
      }) none tt tt

  -- no piece is left
  pub reads_no_piece : TakesRaw number old g d (Ok None) new h e → IsRawRead before g d (Ok None) (after number) h e
  reads_no_piece takes = reads_next before (after number) g h d e (Ok None) none (record {
    pulled = takes.pulled;
    given = takes.given;
    end = takes.end;
    answers = (
      takes.answers.0,
      ap (raw_lines_from number) takes.answers.1,
      ap (λ (l : List ℕ). raw_lines_from number (l ++ [])) takes.answers.2,
    );
    failed = takes.failed;
    sound = none;
    fewer = tt;
  }) none tt tt
