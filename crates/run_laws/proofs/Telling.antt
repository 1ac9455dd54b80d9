-- What an answer with status 0, 1 or 3 tells of the files that a run read.
use Rattle.std.proofs.Common.{◌≡◌, ◌≤◌, ℕ, List, [], ◌∷◌, ◌++◌, append_assoc, Option, Some, None, inl, inr, sym, ap, subst, ◌∙◌, arith}
use Rattle.std.specs.Prelude.{true}
use Rattle.cli_words.specs.declared.words.CommandWords.{CommandWords}
use Rattle.cli_words.specs.declared.words.CommandWords.TheVariants.{Size, Judge, Solve, Check, Audit, List as ListAll, Share, Piece, Worker}
use Rattle.cli_words.specs.declared.end.WordsEnd.{WordsEnd}
use Rattle.cli_words.specs.declared.end.WordsEnd.TheVariants.{Help, Version, Usage, Memory}
use Rattle.cli_words.specs.Words.{EndsTaken}
use Rattle.cli_file_stores.specs.Files.{NamedFile, Files}
use Rattle.cli_file_stores.specs.History.{FileStoreEvent, History}
use Rattle.cli_file_stores.specs.History.FileStoreEvent.{Stored}
use Rattle.cli_answers.specs.Answer.{Answered}
use Rattle.cli_record.specs.RecordFiles.{record_name_of}
use Rattle.run_laws.specs.Spoken.{behind}
use Rattle.run_laws.specs.Storing.{store_steps}
use Rattle.run_laws.specs.Forms.{form_of_answer}
use Rattle.run_laws.specs.Recording.{is_recorded, IsSaidAfter, RecordEnds}
use Rattle.run_laws.specs.Loads.{AnsweredBy}
use Rattle.run_laws.specs.Run.{CommandRun, IsEndAnswer, IsRunAnswer, RunsAsAsked}
use Rattle.run_laws.specs.Headline.{IsStoreTaken, AreTaken, Tells, RunsTell, RunTells}
use Rattle.run_laws.proofs.AnswerStatus.{answer_status, at_most_three}
use Rattle.run_laws.proofs.SolveTells.{solve_tells}
use Rattle.run_laws.proofs.CheckTells.{check_tells}
use Rattle.run_laws.proofs.JudgeTells.{judge_tells}
use Rattle.run_laws.proofs.ListTells.{list_tells}
use Rattle.run_laws.proofs.AuditTells.{audit_tells, size_tells}
use Rattle.run_laws.proofs.BoardTells.{share_tells, piece_tells}
use Rattle.run_laws.proofs.WorkerTells.{worker_tells}
use Rattle.run_laws.proofs.Ending.{same_status, not_refused, not_out_of_memory}
use Rattle.run_laws.proofs.OfTheirLoads.{as_asked, own_run, record_extends, run_taken}
use Rattle.run_laws.proofs.Lifting.{Extends}
use Rattle.run_laws.proofs.Shown.{shown_low}
use Rattle.run_laws.proofs.StoreLemmas.{refusal_status}
use Rattle.cli_words.specs.declared.words.Form.{Form}

-- ---- a command
command_tells : (files : Files) (command : CommandWords) (before after : History) (stored : List NamedFile) (a : Answered) → CommandRun (Some files) command before after stored a → a.status ≤ 3
    → Tells files command stored a
command_tells files (Size words) before after stored a run low = size_tells files words before after stored a run low
command_tells files (Judge words) before after stored a run low = judge_tells files words before after stored a run low
command_tells files (Solve words) before after stored a run low = solve_tells files words before after stored a run low
command_tells files (Check words) before after stored a run low = check_tells files words before after stored a run low
command_tells files (Audit words) before after stored a run low = audit_tells files words before after stored a run low
command_tells files (ListAll words) before after stored a run low = list_tells files words before after stored a run low
command_tells files (Share words) before after stored a run low = share_tells files words before after stored a run low
command_tells files (Piece words) before after stored a run low = piece_tells files words before after stored a run low
command_tells files (Worker words) before after stored a run low = worker_tells files words before after stored a run low

pub runs_tell : RunsTell
runs_tell files command before after stored a run recorded = command_tells files command before after stored a run (at_most_three a.status (answer_status a.status recorded))

-- ---- a command with its record, whose answer is the command's own

-- a file that was taken stays taken as more is stored
taken_on : (before between after : History) (name bytes : List ℕ) → IsStoreTaken before between name bytes → Extends between after → IsStoreTaken before after name bytes
taken_on before between after name bytes k more =
    let event = Stored name bytes true in (
      k.0,
      k.1 ++ more.0,
      more.1 ∙ ap (λ (events : List FileStoreEvent). events ++ more.0) k.2 ∙ append_assoc before.events (k.0 ++ (event ∷ k.1)) more.0
          ∙ ap (λ (events : List FileStoreEvent). before.events ++ events) (append_assoc k.0 (event ∷ k.1) more.0),
    )

-- the answer of a run with its record is that of the command, if it has a status of an answer
unrefused : (form : Form) (list : List NamedFile) (between after : History) (last : List NamedFile) (said a : Answered) (refusal : Option Answered)
    → store_steps list between after last refusal → IsSaidAfter form refusal said a → a.status ≤ 3 → a ≡ said
unrefused form list between after last said a None steps is low = is
unrefused form list between after last said a (Some refused) steps is low =
    let same = same_status a refused (shown_low form refused a is low) in
    absurd (not_refused a low (inr (same ∙ refusal_status list between after last refused steps)))

own_answer : (words : List (List ℕ)) (command : CommandWords) (name : List ℕ) (before between after : History) (last : List NamedFile) (written : List ℕ) (said end : Answered)
    → RecordEnds words command name before between after last written said end → end.status ≤ 3 → end ≡ said
own_answer words command name before between after last written said end (inl h) low = h.1.answer
own_answer words command name before between after last written said end (inr (asked, inl none)) low = absurd (not_out_of_memory end low none.answer)
own_answer words command name before between after last written said end (inr (asked, inr s)) low =
    unrefused (form_of_answer command) (record { name = name; bytes = s.text } ∷ []) between after last said end s.refusal s.steps s.answer low

-- the files that the command itself stored
abbrev own_files : (given : Option Files) (words : List (List ℕ)) (command : CommandWords) (name : Option (List ℕ)) (before after : History) (stored : List NamedFile) (a : Answered)
    → RunsAsAsked given words command name before after stored a → List NamedFile
own_files given words command None before after stored a run = stored
own_files given words command (Some name) before after stored a r = r.own

own_taken : (given : Option Files) (files : Files) (words : List (List ℕ)) (command : CommandWords) (name : Option (List ℕ)) (before after : History) (stored : List NamedFile) (a : Answered)
    → (run : RunsAsAsked given words command name before after stored a) → AreTaken before after (own_files given words command name before after stored a run)
own_taken given files words command None before after stored a run f there = run_taken given files command before after stored a run f there
own_taken given files words command (Some name) before after stored a r f there =
    taken_on before r.between after f.name f.bytes (run_taken given files command before r.between r.own (behind r.written r.said) r.run f there)
    (record_extends words command name before r.between after r.last r.written r.said r.end r.record_ends)

asked_tells : (given : Option Files) (files : Files) (words : List (List ℕ)) (command : CommandWords) (name : Option (List ℕ)) (before after : History) (stored : List NamedFile) (a : Answered)
    → (run : RunsAsAsked given words command name before after stored a) → AnsweredBy files before after → a.status ≤ 3
    → Tells files command (own_files given words command name before after stored a run) a
asked_tells given files words command None before after stored a run by low =
    command_tells files command before after stored a (as_asked given files words command None before after stored a run by) low
asked_tells given files words command (Some name) before after stored a r by low =
    let run = own_run given files words command name before r.between after r.own r.last r.written r.said r.end r.run r.record_ends by in
    let whole = behind r.written r.said in
    let of_end : a.status ≡ r.end.status = same_status a (behind r.written r.end) r.answer in
    let is = own_answer words command name before r.between after r.last r.written r.said r.end r.record_ends (omega arith) in
    let of_said : r.end.status ≡ r.said.status = same_status r.end r.said is in
    let own : a ≡ whole = r.answer ∙ ap (behind r.written) is in
    subst (Tells files command r.own) (sym own) (command_tells files command before r.between r.own whole run (omega arith))

-- ---- a run
no_files : Files
no_files name = None

usage_status : (end : WordsEnd) (a : Answered) → IsEndAnswer end a → (words : List (List ℕ)) → EndsTaken words end → is_recorded a.status ≡ true → ⊥
usage_status (Help text) a answer words (inl e) recorded = cc
usage_status (Help text) a answer words (inr lack) recorded = absurd lack.1
usage_status (Version text) a answer words (inl e) recorded = cc
usage_status (Version text) a answer words (inr lack) recorded = absurd lack.1
usage_status (Usage text) a answer words taken recorded = let two : a.status ≡ 2 = same_status a _ answer in not_recorded (subst (λ (n : ℕ). is_recorded n ≡ true) two recorded)
  where
    not_recorded : is_recorded 2 ≡ true → ⊥
    not_recorded e = cc
usage_status Memory a answer words taken recorded = not_out_of_memory a (at_most_three a.status (answer_status a.status recorded)) answer

pub run_tells : (given : Option Files) (words : List (List ℕ)) (before after : History) (stored : List NamedFile) (a : Answered) → IsRunAnswer given words before after stored a
    → RunTells words before after a
run_tells given words before after stored a (inl none) taken recorded = absurd (not_out_of_memory a (at_most_three a.status (answer_status a.status recorded)) none.0)
run_tells given words before after stored a (inr (inl at_words)) taken recorded =
    absurd (usage_status at_words.end a at_words.answer words (at_words.taken taken) recorded)
run_tells given words before after stored a (inr (inr r)) taken recorded = record {
  command = r.command;
  meant = r.meant;
  stored = own_files given words r.command (record_name_of r.command) before after stored a r.run;
  taken = own_taken given no_files words r.command (record_name_of r.command) before after stored a r.run;
  told = λ files by. asked_tells given files words r.command (record_name_of r.command) before after stored a r.run by (at_most_three a.status (answer_status a.status recorded));
}
