-- The form of a worker's texts: an LF ends each, and a fault stays behind whole lines.
use Rattle.std.proofs.Common.{◌≡◌, ℕ, List, ◌++◌, codes, map, Result, Ok, Err, subst, refl, arith}
use Rattle.std.specs.List.{flat_map, join_with_byte}
use Rattle.std.specs.Result.{IfErr}
use Rattle.field_lines.specs.RawPieces.{raw_lines}
use Rattle.field_lines.specs.Values.{GivesUnless}
use Rattle.certificate_lines.specs.Reading.{IsUnlessMemory}
use Rattle.certificate_lines.specs.Rest.{IsTextMemory}
use Rattle.certificate_lines.specs.declared.fault.TextFault.{TextFault}
use Rattle.certificate_lines.specs.declared.item.Item.TheVariants.{Grouped}
use Rattle.certificate_lines.proofs.LineKinds.{OfLine}
use Rattle.piece_states.specs.Text.{open_words, closed_words, asked_words, line_of, text_of_told}
use Rattle.worker_texts.specs.RoundText.{round_words}
use Rattle.worker_texts.specs.WorkerText.{WorkerTextTold, Round, Open, text_of, HasWorkerText, text_from, text_in}
use Rattle.worker_texts.specs.Coming.{worker_form}
use Rattle.worker_texts.specs.TextForms.{EndsWithLf, IsByLines, BeginsWithText}
use Rattle.worker_texts.proofs.FaultsTold.{text_told}
use Rattle.worker_texts.proofs.WholeLines.{lf_stays, lf_behind, lines_stay, lines_few}

-- an LF ends each text
text_ends : (told : WorkerTextTold) → EndsWithLf (text_of told)
text_ends (Round round) = lf_behind (join_with_byte 32 (round_words round)) (map Grouped round.target)
text_ends (Open piece) =
    let last : EndsWithLf (codes "end\n") = record { front = codes "end"; is = refl } in
    let asked = flat_map (λ a. line_of (asked_words a)) piece.told.asked in
    let closed = flat_map (λ g. line_of (closed_words g)) piece.told.closed in
    lf_stays (line_of (open_words piece.round piece.piece)) (text_of_told piece.told) (lf_stays closed (asked ++ codes "end\n") (lf_stays asked (codes "end\n") last))

pub worker_by_lines : IsByLines worker_form
worker_by_lines = record {
  ends = text_ends;
  within = λ text fault h. omega (arith, (text_told fault (raw_lines text) h).within, lines_few 1 text);
  read = λ text fault h e. subst OfLine e (text_told fault (raw_lines text) h).of_line;
  stays = λ front later fault whole h. lines_stay text_from (Err fault) (λ pieces own. (text_told fault pieces own).stays whole) front later h;
}

-- memory alone can be refused to a text at the front
pub front_only : {X : Type 0} (view : X → WorkerTextTold) (text : List ℕ) (r : Result X TextFault)
    → ((told : WorkerTextTold) (rest : List ℕ) → HasWorkerText told → text ≡ text_of told ++ rest → IsUnlessMemory view r told) → IfErr r (λ f. BeginsWithText worker_form text → IsTextMemory f)
front_only view text (Ok x) h = tt
front_only view text (Err fault) h = λ has. h has.told has.rest has.spelled has.text_is

-- the fault is that of the text
pub front_fault : {X : Type 0} (view : X → WorkerTextTold) (text : List ℕ) (r : Result X TextFault) → GivesUnless IsTextMemory view r (text_in text) → IfErr r (λ f. (IsTextMemory f → ⊥) → text_in text ≡ Err f)
front_fault view text (Ok x) h = tt
front_fault view text (Err fault) h = h
