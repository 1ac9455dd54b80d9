-- What runs of `worker` tell.
use Rattle.std.proofs.Common.{◌≡◌, ◌≤◌, ℕ, List, Some, inl, inr, refl, ap, subst, ◌∙◌}
use Rattle.std.proofs.lemmas.List.{append-nil}
use Rattle.std.specs.Prelude.{Result, Ok}
use Rattle.county_problem.specs.ProblemValue.{ProblemValue}
use Rattle.worker_texts.specs.Coming as texts
use Rattle.cli_words.specs.declared.words.WorkerWords.{WorkerWords}
use Rattle.cli_words.specs.declared.words.CommandWords.TheVariants.{Worker}
use Rattle.cli_file_stores.specs.declared.file_store.ReadEnd.{ReadEnd}
use Rattle.cli_file_stores.specs.declared.file_store.FileStoreFault.{FileStoreFault}
use Rattle.cli_file_stores.specs.Files.{NamedFile, Files}
use Rattle.cli_file_stores.specs.FileStore.{ReadsFile}
use Rattle.cli_file_stores.specs.History.{History}
use Rattle.cli_answers.specs.Answer.{Answered, success, memory_answer}
use Rattle.run_laws.specs.Reading.{GivenBack}
use Rattle.run_laws.specs.FilesProblem.{IsProblemOfFiles}
use Rattle.run_laws.specs.Spoken.{behind}
use Rattle.cli_words.specs.Words.{standard_input}
use Rattle.run_laws.specs.WorkerSteps.{WorkerRun, HasProved, WorkerStops, IsWorkerRun, worker_steps, WorkerEnds}
use Rattle.run_laws.specs.Run.{CommandRun}
use Rattle.run_laws.specs.Headline.{Tells}
use Rattle.run_laws.proofs.Texts.{file_store_status, one_found}
use Rattle.run_laws.proofs.Refusing.{IsRefusal, Refuses, as_refused, bind_refuses, value_refuses, problem_refuses, read_one_refuses, pieces_status}
use Rattle.run_laws.proofs.Ending.{same_status, not_refused}
use Rattle.run_laws.proofs.Shown.{ends_low}
use Rattle.run_laws.proofs.FilesRead.{went, problem_reads, problem_of_files}

module _ (files : Files) where
  -- an answer of a steps that is behind what was written is refused as it is alone
  refused_behind : (text : List ℕ) (a end b : Answered) → a.status ≤ 3 → a ≡ behind text end → end ≡ b → IsRefusal b → ⊥
  refused_behind text a end b low said is refusal = not_refused a low (as_refused a (behind text b) (said ∙ ap (behind text) is) refusal)

  module _ (words : WorkerWords) where
    worker_refuses : Refuses (worker_steps (Some files) words)
    worker_refuses =
        bind_refuses _ _ (problem_refuses (Some files) words.problem) (λ v.
        bind_refuses _ _ (read_one_refuses (Some files) standard_input) (λ back. value_refuses (IsWorkerRun v back)))

    module _ (stored : List NamedFile) (a : Answered) (low : a.status ≤ 3) (s : WorkerRun) (said : a ≡ behind s.text s.end) (v : ProblemValue) (problem : IsProblemOfFiles files words.problem v)
        (back : GivenBack) (reads : ReadsFile files standard_input back.bytes back.answer) (left : texts.Held) (proved : HasProved v back.bytes s.text left) where
      stops_tell : WorkerStops left back.answer s.end → Tells files (Worker words) stored a
      stops_tell (inl (whole, none_left, end)) = inl (
        same_status a _ answer,
        record {
          v = v;
          problem = problem;
          bytes = back.bytes;
          input = subst (λ (answer : Result ReadEnd FileStoreFault). ReadsFile files standard_input back.bytes answer) whole reads;
          text = s.text;
          left = left;
          none_left = none_left;
          proved = proved;
          answer = answer;
        },
      )
        where
          answer : a ≡ success s.text
          answer = said ∙ ap (behind s.text) end ∙ ap (λ (text : List ℕ). success text) (append-nil s.text)
      stops_tell (inr (inl line)) = absurd (refused_behind s.text a s.end _ low said line.answer (pieces_status line.fault))
      stops_tell (inr (inr (inl failed))) = absurd (refused_behind s.text a s.end _ low said failed.2 (inr (file_store_status standard_input failed.0)))
      stops_tell (inr (inr (inr memory))) = absurd (refused_behind s.text a s.end memory_answer low said memory (inr refl))

    worker_ended : (before after : History) (stored : List NamedFile) (a : Answered) → a.status ≤ 3 → (s : WorkerRun) → worker_steps (Some files) words before after (Ok s) → a ≡ behind s.text s.end
        → Tells files (Worker words) stored a
    worker_ended before after stored a low s h said =
        let p = went _ _ before after s h in
        let r = went _ _ p.between after s p.goes_on in
        let run = r.goes_on.1 in
        stops_tell stored a low s said p.value (problem_of_files files words.problem p.value (problem_reads files words.problem before p.between p.value p.given))
        r.value (one_found files standard_input p.between r.between r.value r.given) run.0 run.1 run.2

    pub worker_tells : (before after : History) (stored : List NamedFile) (a : Answered) → CommandRun (Some files) (Worker words) before after stored a → a.status ≤ 3 → Tells files (Worker words) stored a
    worker_tells before after stored a run low = by_end (ends_low (Some files) (Worker words) before after stored a run low)
      where
        by_end : WorkerEnds (Some files) words before after stored a → Tells files (Worker words) stored a
        by_end (inl stop, none) = absurd (not_refused a low (worker_refuses before after a stop))
        by_end (inr (s, ended, said), none) = worker_ended before after stored a low s ended said
