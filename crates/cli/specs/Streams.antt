-- What files that are read as they come gave.
use Rattle.std.specs.Prelude.{ℕ, List, Option, Result, Ok, Err}
use Rattle.field_lines.specs.Source.{Given}
use Rattle.cli_file_stores.specs.declared.file_store.ReadEnd.{ReadEnd}
use Rattle.cli_file_stores.specs.declared.file_store.FileStoreFault.{FileStoreFault}
use Rattle.cli_file_stores.specs.Files.{Files}
use Rattle.cli_answers.specs.declared.answer.Refusal.{Refusal}
use Rattle.cli_answers.specs.Answers.{RefusalShows}
use Rattle.cli_answers.specs.Refusals.{file_store_answer}
use Rattle.cli_words.specs.declared.words.CertificateWords.{CertificateWords}
use Rattle.run_laws.specs.Steps.{Steps, ◌>>=◌, value_step}
use Rattle.run_laws.specs.Reading.{read_step, given_step, given_of, back_step, given_pair}
use Rattle.run_laws.specs.TableSteps.{Tabled, Reported}
use Rattle.run_laws.specs.CheckSteps.{IsChecked}

-- a reader is given back, and what it gave
abbrev pub given_back : Option Files → List ℕ → Steps Given
given_back files name = read_step files name >>= given_step name

-- two readers are given back, that of the second file first, and what they gave
abbrev pub both_given_back : Option Files → List ℕ → List ℕ → Steps (Given × Given)
both_given_back files first second = back_step files first second >>= given_pair first second

-- Two readers were given back with these answers: both are sound, or the refusal is of the second file, or of the first
-- if the second is sound.
abbrev pub AreBack : List ℕ → List ℕ → Result ReadEnd FileStoreFault → Result ReadEnd FileStoreFault
    → Result (Unit {0}) Refusal → Type 0
AreBack first second (Ok end) (Ok last) (Ok done) = Unit {0}
AreBack first second given (Err fault) (Err refusal) = RefusalShows (file_store_answer second fault) refusal
AreBack first second (Err fault) (Ok last) (Err refusal) = RefusalShows (file_store_answer first fault) refusal
AreBack first second given other answer = ⊥

-- the verdict on the certificate of a file
abbrev pub checked_file : Option Files → CertificateWords → Tabled → Steps Reported
checked_file files words t =
    given_of files words.certificate.now >>= λ given. value_step (IsChecked words.problem.common.form t words.budget given)
