use Rattle.std.proofs.Common.{◌≡◌, ◌==◌, ◌∙◌, ℕ, List, [], Some, inr, ap, subst, sym}
use Rattle.std.specs.Prelude.{reverse}
use Rattle.std.specs.Option.{option_map, option_or}
use Rattle.std.specs.List.{slice_split}
use Rattle.cli_answers.specs.Answer.{Answered}
use Rattle.cli_answers.specs.Answers.{answer_of}
use Rattle.cli_file_stores.specs.Files.{NamedFile, held}
use Rattle.cli_file_stores.specs.Memory.{files_of}
use Rattle.written_output.specs.Writing.{kept_of}
use Rattle.run_laws.specs.Run.{IsRunAnswer}
use Rattle.run_laws.specs.Spoken.{behind}
use Rattle.cli.specs.Delivery.{texts}
use Rattle.cli.specs.CaseRun.{WordsOver}
use Rattle.cli.proofs.CaseLemmas.{words_over, files-reverse}
use Rattle.cli.proofs.case.words_over_files.Goals as goal

pub words_answer-requires : goal.words_answer-requires
words_answer-requires c = record { kept = inr (ap (option_map (λ v. v.items)) c.new-written.ensures.kept ∙ ap (λ (t : List ℕ). Some t) c.new.ensures.items); uncut = c.new-written.ensures.whole }

pub returns : goal.returns
returns c =
    let run = c.in_ok-answer.ensures in
    let empty : kept_of c.new-written.result ≡ Some [] = ap (option_map (λ v. v.items)) c.new-written.ensures.kept ∙ ap (λ (t : List ℕ). Some t) c.new.ensures.items in
    let whole : answer_of c.in_ok-answer-2.answer ≡ behind run.1 (answer_of c.in_ok-answer.answer) = c.in_ok-answer-2.ensures run.1 (run.3.kept [] empty) in
    let a : Answered = record { text = c.push_stored.new.out.items; status = c.in_ok-answer-2.answer.status } in
    let files : c.new-file_store.result.files ≡ reverse (files_of c.args.files.items) = c.new-file_store.ensures.files ∙ (ap files_of c.reverse.ensures.items ∙ files-reverse c.args.files.items) in
    let words : texts c.deref.result.now ≡ slice_split (λ b. b == 32) c.args.line.now = ap texts c.deref.ensures.value ∙ c.in_ok-words.ensures in
    let told = subst (λ (s : Answered). IsRunAnswer (Some (λ name. option_or (held c.new-file_store.result.stored name) (held c.new-file_store.result.files name))) (texts c.deref.result.now) (record { failures = 0; events = c.new-file_store.result.events }) (record { failures = 0; events = c.words_answer.new.file_store.events }) run.0 s) (sym whole) run.4 in
    subst (λ (w : List (List ℕ)). WordsOver (reverse (files_of c.args.files.items)) w a) words
    (subst (λ (f : List NamedFile). WordsOver f (texts c.deref.result.now) a) files
    (words_over c.new-file_store.result.stored c.new-file_store.result.files (files_of c.stored_files.result.now) (texts c.deref.result.now) (answer_of c.in_ok-answer-2.answer) c.push_stored.new.out.items run.0 c.new-file_store.result.events c.words_answer.new.file_store.events
    c.new-file_store.ensures.stored c.new-file_store.ensures.events (ap (λ (f : List NamedFile). Some f) c.stored_files.ensures ∙ run.2.list) c.in_ok-push_stored.ensures told))
