-- A worker from its first text to its last.
use Rattle.std.proofs.Common.{◌≡◌, [], Result, Ok, Err, inl, inr, refl, sym, subst, append-nil}
use Rattle.grouping_laws.specs.Problem.{Problem}
use Rattle.field_lines.specs.Source.{Given}
use Rattle.certificate_lines.specs.Rest.{IsTextMemory}
use Rattle.certificate_lines.specs.declared.fault.TextFault.{TextFault}
use Rattle.worker_texts.specs.Coming.{Held, nothing_held, PullsOnto, TellsFault}
use Rattle.std.specs.Prelude.{None}
use Rattle.piece_worker.specs.Taking.{Moment}
use Rattle.piece_worker.specs.Serving.{EndsBy, HasAnswered}
use Rattle.piece_worker.specs.Runs.{WorkerEnds, IsWorkerRun}

-- memory was refused before anything was read
pub none_read : (p : Problem) (from : Given) (fault : TextFault) → IsTextMemory fault → IsWorkerRun p from from [] nothing_held (Err fault)
none_read p from fault memory = record {
  texts = [];
  bytes = [];
  pulls = record { pulled = []; given = sym (append-nil from.bytes); text_is = refl };
  spelled = tt;
  read = refl;
  last = None;
  answers = (refl, refl);
  ends = inl memory;
}

module _ {C : Type 0} (p : Problem) (old new : Moment C) (fresh : old.worker.reader ≡ nothing_held) where
  ends_of : (left : Held) (result : Result (Unit {0}) TextFault) → EndsBy left new result → WorkerEnds left new.given result
  ends_of left (Ok done) ends = (ends.1, ends.2)
  ends_of left (Err fault) (inl told) = inr (subst (λ (h : Held). TellsFault left new.given.ended fault h) told.stays told)
  ends_of left (Err fault) (inr untold) = inl untold.0

  pub run_of : (result : Result (Unit {0}) TextFault) (h : HasAnswered p None old new result) → IsWorkerRun p old.given new.given h.text h.left result
  run_of result h = record {
    texts = h.serves.texts;
    bytes = h.serves.bytes;
    pulls = subst (λ (r : Held). PullsOnto old.given new.given r.bytes h.serves.bytes) fresh h.serves.pulls;
    spelled = h.serves.spelled;
    read = h.serves.read;
    last = h.end;
    answers = h.serves.answers;
    ends = ends_of h.left result h.ends;
  }
