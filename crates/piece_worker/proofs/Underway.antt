-- Texts that were answered so far, and how it goes on and ends.
use Rattle.std.proofs.Common.{◌≡◌, ℕ, ◌+◌, List, [], ◌∷◌, ◌++◌, length, filter, Option, None, Result, Ok, Err, ◌⊎◌, inl, inr, refl, sym, ap, ◌∙◌, subst, arith, append_assoc, append-nil, length-append}
use Rattle.std.proofs.lemmas.Grind.{flat_map-append}
use Rattle.std.proofs.lemmas.List.Elements.{filter-append}
use Rattle.field_lines.specs.RawPieces.{is_lf}
use Rattle.field_lines.specs.Source.{Given}
use Rattle.grouping_laws.specs.Problem.{Problem}
use Rattle.place_sets.proofs.AllLists.{all_append}
use Rattle.certificate_lines.specs.Rest.{IsTextMemory}
use Rattle.certificate_lines.specs.declared.fault.TextFault.{TextFault}
use Rattle.worker_texts.specs.RoundText.{RoundTold}
use Rattle.worker_texts.specs.WorkerText.{WorkerTextTold, text_of, HasWorkerText}
use Rattle.worker_texts.specs.TextValue.{worker_text_of}
use Rattle.worker_texts.specs.Coming.{Held, PullsOnto, TakesText, lines_in}
use Rattle.worker_texts.proofs.WholeLines.{pulls_more}
use Rattle.written_output.specs.Writing.{IsWritten}
use Rattle.written_output.proofs.Texts.{written_none, written_both}
use Rattle.piece_worker.specs.Rounds.{HoldsRound}
use Rattle.piece_worker.specs.Answers.{AnswersTexts}
use Rattle.piece_worker.specs.Taking.{Moment, IsQuiet, ReadsOne, TakesNone, TakesOne}
use Rattle.piece_worker.specs.Serving.{AnswersFrom, text_of_all, EndsBy, HasAnswered}
use Rattle.piece_worker.proofs.Tellings.{answers_both}

-- the bytes and the lines of texts with one more
all_with : (texts : List WorkerTextTold) (told : WorkerTextTold) → text_of_all (texts ++ told ∷ []) ≡ text_of_all texts ++ text_of told
all_with texts told = flat_map-append text_of texts (told ∷ []) ∙ ap (λ (t : List ℕ). text_of_all texts ++ t) (append-nil (text_of told))

lines_with : (texts : List WorkerTextTold) (told : WorkerTextTold) → lines_in (text_of_all (texts ++ told ∷ [])) ≡ lines_in (text_of_all texts) + lines_in (text_of told)
lines_with texts told =
    ap lines_in (all_with texts told) ∙ ap (λ (t : List ℕ). length t) (filter-append is_lf (text_of_all texts) (text_of told))
    ∙ length-append (filter is_lf (text_of_all texts)) (filter is_lf (text_of told))

module _ (p : Problem) (last : Option RoundTold) (held : Held) (from : Given) where
  -- before anything was read
  none_answered : AnswersFrom p last held from from [] last held
  none_answered = record {
    texts = [];
    answers = (refl, refl);
    bytes = held.bytes;
    pulls = record { pulled = []; given = sym (append-nil from.bytes); text_is = sym (append-nil held.bytes) };
    read = refl;
    spelled = tt;
    lines = λ small. omega arith;
  }

  -- more was pulled
  pulled_on : (mid to : Given) (text : List ℕ) (end : Option RoundTold) (now : Held) (bytes : List ℕ) → (a : AnswersFrom p last held from mid text end now) → PullsOnto mid to now.bytes bytes
      → (b : AnswersFrom p last held from to text end (record { bytes = bytes; lines = now.lines })) × (b.texts ≡ a.texts)
  pulled_on mid to text end now bytes a pulls =
      let front = text_of_all a.texts in
      let behind : front ++ bytes ≡ a.bytes ++ pulls.pulled =
      ap (λ (t : List ℕ). front ++ t) pulls.text_is ∙ sym (append_assoc front now.bytes pulls.pulled) ∙ ap (λ (t : List ℕ). t ++ pulls.pulled) (sym a.read) in (
        record {
          texts = a.texts;
          answers = a.answers;
          bytes = front ++ bytes;
          pulls = pulls_more from mid to held.bytes a.bytes (front ++ bytes) a.pulls (record { pulled = pulls.pulled; given = pulls.given; text_is = behind });
          read = refl;
          spelled = a.spelled;
          lines = a.lines;
        },
        refl,
      )

  -- one more text was read and answered
  taken_on : (to : Given) (text said : List ℕ) (end behind : Option RoundTold) (now next : Held) (told : WorkerTextTold) → (a : AnswersFrom p last held from to text end now) → TakesText now told next → AnswersTexts p end (told ∷ []) said behind
      → (b : AnswersFrom p last held from to (text ++ said) behind next) × (length b.texts ≡ length a.texts + 1)
  taken_on to text said end behind now next told a takes answers =
      let front = text_of_all a.texts in (
        record {
          texts = a.texts ++ told ∷ [];
          answers = answers_both p last end behind a.texts (told ∷ []) text said a.answers answers;
          bytes = a.bytes;
          pulls = a.pulls;
          read =
              a.read ∙ ap (λ (t : List ℕ). front ++ t) takes.text_is ∙ sym (append_assoc front (text_of told) next.bytes)
              ∙ ap (λ (t : List ℕ). t ++ next.bytes) (sym (all_with a.texts told));
          spelled = all_append HasWorkerText a.texts (told ∷ []) a.spelled (takes.spelled, tt);
          lines = λ small.
              let many = lines_with a.texts told in
              let first : now.lines ≡ held.lines + lines_in front = a.lines (omega (arith, many, small)) in
              let then : next.lines ≡ now.lines + lines_in (text_of told) = takes.lines (omega (arith, many, small, first)) in
              omega (arith, many, first, then);
        },
        length-append a.texts (told ∷ []),
      )

-- what was answered so far, at a moment when this number of texts was answered
pub record IsUnderway {C : Type 0} (p : Problem) (last : Option RoundTold) (old new : Moment C)
    (count : ℕ) : Type 0 where
  pub text : List ℕ
  pub end : Option RoundTold
  pub serves : AnswersFrom p last old.worker.reader old.given new.given text end new.worker.reader
  pub holds : HoldsRound p end new.worker.last
  pub written : IsWritten old.contents new.contents old.failed new.failed old.written new.written text
  pub many : length serves.texts ≡ count

module _ {C : Type 0} (p : Problem) (last : Option RoundTold) (old : Moment C) where
  -- nothing yet
  pub begun : HoldsRound p last old.worker.last → IsUnderway p last old old 0
  unfolding none_answered
  begun holds = record {
    text = [];
    end = last;
    serves = none_answered p last old.worker.reader old.given;
    holds = holds;
    written = written_none old.contents old.failed old.written;
    many = refl;
  }

  -- the next text is answered
  pub goes_on : (now next : Moment C) (count : ℕ) → (u : IsUnderway p last old now count) → TakesOne p u.end now next → IsUnderway p last old next (count + 1)
  goes_on now next count u takes =
      let reads = (takes.0).reads in
      let told = worker_text_of (takes.0).text in
      let pulled = pulled_on p last old.worker.reader old.given now.given next.given u.text u.end now.worker.reader reads.bytes u.serves reads.pulls in
      let more = taken_on p last old.worker.reader old.given next.given u.text (takes.1).said u.end (takes.1).end (record { bytes = reads.bytes; lines = now.worker.reader.lines }) next.worker.reader told pulled.0 reads.next (takes.1).answers in
      record {
        text = u.text ++ (takes.1).said;
        end = (takes.1).end;
        serves = more.0;
        holds = (takes.1).holds;
        written = written_both old.contents now.contents next.contents old.failed now.failed next.failed old.written now.written next.written u.text (takes.1).said u.written (takes.1).written;
        many = more.1 ∙ ap (λ (n : ℕ). n + 1) (ap length pulled.1 ∙ u.many);
      }

  -- what was written stays where all is quiet
  still_written : (now new : Moment C) (text : List ℕ) → IsQuiet now new → IsWritten old.contents now.contents old.failed now.failed old.written now.written text → IsWritten old.contents new.contents old.failed new.failed old.written new.written text
  still_written now new text quiet written =
      subst (λ t. IsWritten old.contents new.contents old.failed new.failed old.written new.written t) (append-nil text)
      (written_both old.contents now.contents new.contents old.failed now.failed new.failed old.written now.written new.written text [] written quiet.none)

  -- nothing more was answered, though more may have been pulled
  module _ (now new : Moment C) (count : ℕ) (u : IsUnderway p last old now count) (quiet : IsQuiet now new)
      (bytes : List ℕ) (pulls : PullsOnto now.given new.given now.worker.reader.bytes bytes) where
    abbrev left : Held
    left = record { bytes = bytes; lines = now.worker.reader.lines }

    -- it ends so
    ends_so : (result : Result (Unit {0}) TextFault) → EndsBy left new result → HasAnswered p last old new result
    ends_so result ends = record {
      text = u.text;
      end = u.end;
      left = left;
      serves = (pulled_on p last old.worker.reader old.given now.given new.given u.text u.end now.worker.reader bytes u.serves pulls).0;
      holds = subst (HoldsRound p u.end) (sym quiet.last) u.holds;
      written = still_written now new u.text quiet u.written;
      ends = ends;
    }

  -- the source has ended
  pub ends_read : (now new : Moment C) (count : ℕ) → IsUnderway p last old now count → TakesNone now new (Ok None) → HasAnswered p last old new (Ok tt)
  ends_read now new count u none = ends_so now new count u none.1 (none.0).bytes (none.0).pulls (Ok tt) ((none.0).next.2, (none.0).next.0, (none.0).next.1)

  -- a fault came
  pub ends_fault : (now new : Moment C) (count : ℕ) (fault : TextFault) → IsUnderway p last old now count → TakesNone now new (Err fault) ⊎ (IsTextMemory fault × ReadsOne now new × IsQuiet now new) → HasAnswered p last old new (Err fault)
  ends_fault now new count fault u (inl none) = ends_so now new count u none.1 (none.0).bytes (none.0).pulls (Err fault) (inl (none.0).next)
  ends_fault now new count fault u (inr (memory, one, quiet)) =
      ends_so now new count u quiet one.reads.bytes one.reads.pulls (Err fault) (inr (memory, record { told = worker_text_of one.text; takes = one.reads.next }))

  -- memory is refused behind the last text that one call answers
  pub ends_full : (now : Moment C) (count : ℕ) (fault : TextFault) → IsTextMemory fault → IsUnderway p last old now count → HasAnswered p last old now (Err fault)
  ends_full now count fault memory u = record {
    text = u.text;
    end = u.end;
    left = now.worker.reader;
    serves = u.serves;
    holds = u.holds;
    written = u.written;
    ends = inl (record { stays = refl; only = λ has. inl memory; found = λ unread. absurd (unread (inl memory)) });
  }
