-- The record of a run, by its parts.
use Rattle.std.proofs.Common.{◌≡◌, ℕ, List, [], Option, inl, refl, subst, subst₂}
use Rattle.cli_file_stores.specs.Files.{NamedFile, Files}
use Rattle.cli_file_stores.specs.History.{History}
use Rattle.cli_words.specs.declared.words.CommandWords.{CommandWords}
use Rattle.cli_answers.specs.Answer.{Answered, memory_answer}
use Rattle.run_laws.specs.Recording.{RecordEnds}
use Rattle.run_laws.specs.Run.{CommandRun, RunsAsAsked}
use Rattle.run_laws.specs.Spoken.{behind}
use Rattle.run_laws.specs.Storing.{HasStored}
use Rattle.cli.proofs.StoringLemmas.{from_start}

-- a growth was refused in the command, so that no record is stored
pub unanswered : (words : List (List ℕ)) (command : CommandWords) (name : List ℕ) (before between : History) (written : List ℕ) → RecordEnds words command name before between between [] written memory_answer memory_answer
unanswered words command name before between written = inl (refl, record { still = refl; none = refl; answer = refl })

module _ {H : Type 0} (contents : H → Option Files) (history : H → History) (stored_in : H → Option (List NamedFile)) where
  -- a command ran from a state that had the files and the history of the first one
  pub ran_from : (s k t : H) → contents k ≡ contents s → history k ≡ history s → stored_in k ≡ stored_in s → (command : CommandWords) (stored : List NamedFile) (a : Answered)
      → HasStored (contents k) (contents t) (stored_in k) (stored_in t) stored → CommandRun (contents k) command (history k) (history t) stored a
      → HasStored (contents s) (contents t) (stored_in s) (stored_in t) stored × CommandRun (contents s) command (history s) (history t) stored a
  ran_from s k t same still kept command stored a h run = (
    from_start (contents s) (contents k) (contents t) (stored_in s) (stored_in k) (stored_in t) stored same kept h,
    subst₂ (λ (f : Option Files) (n : History). CommandRun f command n (history t) stored a) same still run,
  )

  -- a run whose record has a name that is known, where it wrote a text of which this holds
  pub asked_as : (s t : H) (Wrote : List ℕ → Type 0) (words : List (List ℕ)) (command : CommandWords) (a : Answered) (name known : Option (List ℕ)) → name ≡ known
      → (stored : List NamedFile) × (text : List ℕ) × HasStored (contents s) (contents t) (stored_in s) (stored_in t) stored × Wrote text × RunsAsAsked (contents s) words command name (history s) (history t) stored (behind text a)
      → (stored : List NamedFile) × (text : List ℕ) × HasStored (contents s) (contents t) (stored_in s) (stored_in t) stored × Wrote text × RunsAsAsked (contents s) words command known (history s) (history t) stored (behind text a)
  asked_as s t Wrote words command a name known is run =
      (run.0, run.1, run.2, run.3, subst (λ (n : Option (List ℕ)). RunsAsAsked (contents s) words command n (history s) (history t) run.0 (behind run.1 a)) is run.4)
