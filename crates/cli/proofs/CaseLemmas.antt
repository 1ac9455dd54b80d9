-- What the steps of a run of a case give together.
use Rattle.std.proofs.Common.{◌≡◌, ◌∙◌, ◌++◌, ◌==◌, ℕ, true, List, [], ◌∷◌, Some, refl, sym, ap, subst, map}
use Rattle.std.specs.Prelude.{reverse}
use Rattle.std.specs.Option.{option_or, option_map}
use Rattle.std.proofs.lemmas.List.{reverse-append, map_push}
use mathlib.Core.Path.{fun_ext}
use Rattle.cli_answers.specs.Answer.{Answered}
use Rattle.cli_file_stores.specs.Files.{NamedFile, Files, held, with_files}
use Rattle.cli_file_stores.specs.History.{FileStoreEvent, no_history}
use Rattle.std.specs.List.{slice_split}
use Rattle.field_lines.specs.RawPieces.{raw_lines}
use Rattle.cli.specs.Case.{case_files, first_case_line, is_case}
use Rattle.run_laws.specs.Run.{IsRunAnswer}
use Rattle.cli.specs.CaseRun.{WordsOver, stored_text, IsCaseAnswer}
use Rattle.cli_file_stores.specs.Memory.{files_of}
use Rattle.cli_file_stores.specs.declared.memory.MemoryFile.{MemoryFile}

-- a file store in memory on which nothing was stored
nothing_stored : (stored files : List NamedFile) → stored ≡ [] → (λ name. option_or (held stored name) (held files name)) ≡ held files
nothing_stored stored files none = fun_ext (λ name. rw none refl)

-- an answer over such a file store, with the files that were stored since
pub words_over : (began files now : List NamedFile) (words : List (List ℕ)) (run : Answered) (after : List ℕ) (stored : List NamedFile) (first events : List FileStoreEvent)
    → began ≡ [] → first ≡ [] → Some now ≡ option_map (λ held. with_files held stored) (Some began) → after ≡ run.text ++ stored_text now
    → IsRunAnswer (Some (λ name. option_or (held began name) (held files name))) words (record { failures = 0; events = first }) (record { failures = 0; events = events }) stored run
    → WordsOver files words (record { text = after; status = run.status })
words_over began files now words run after stored first events none fresh kept is answer =
    let same : now ≡ with_files [] stored = some_same kept ∙ ap (λ (l : List NamedFile). with_files l stored) none in
    record {
      run = run;
      stored = stored;
      events = events;
      answer = subst (λ (f : Files). IsRunAnswer (Some f) words no_history (record { failures = 0; events = events }) stored run) (nothing_stored began files none)
          (subst (λ (l : List FileStoreEvent). IsRunAnswer (Some (λ name. option_or (held began name) (held files name))) words (record { failures = 0; events = l }) (record { failures = 0; events = events }) stored run) fresh answer);
      followed = ap (λ (t : List ℕ). record { text = t; status = run.status }) (is ∙ ap (λ (l : List NamedFile). run.text ++ stored_text l) same);
    }
  where
    some_same : {x y : List NamedFile} → Some x ≡ Some y → x ≡ y
    some_same e = cc

-- the answer to a case whose line and files are known
pub case_over : (text line : List ℕ) (files : List NamedFile) (a : Answered) → is_case text ≡ true → line ≡ first_case_line (raw_lines text) → files ≡ case_files text
    → WordsOver (reverse files) (slice_split (λ b. b == 32) line) a → IsCaseAnswer text (Some a)
case_over text line files a case is_line is_files answer = (
  case,
  subst (λ (l : List ℕ). WordsOver (reverse (case_files text)) (slice_split (λ b. b == 32) l) a) is_line
      (subst (λ (f : List NamedFile). WordsOver (reverse f) (slice_split (λ b. b == 32) line) a) is_files answer),
)

-- a list read from its end, each changed
map-reverse : {X Y : Type 0} (f : X → Y) (xs : List X) → map f (reverse xs) ≡ reverse (map f xs)
map-reverse f [] = refl
map-reverse f (x ∷ xs) =
    ap (map f) (reverse-append (x ∷ []) xs) ∙ map_push f (reverse xs) x ∙ ap (λ l. l ++ f x ∷ []) (map-reverse f xs)
    ∙ sym (reverse-append (f x ∷ []) (map f xs))

pub files-reverse : (files : List MemoryFile) → files_of (reverse files) ≡ reverse (files_of files)
files-reverse files = map-reverse _ files
