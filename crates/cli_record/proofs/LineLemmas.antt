-- The lines of files in a record.
use Rattle.std.proofs.Common.{◌≡◌, ◌∙◌, List, ◌++◌, ap, sym, append_assoc}
use Rattle.std.specs.Prelude.{Result, Ok, Err, OnOk}
use Rattle.std.specs.Option.{option_map}
use Rattle.std.proofs.lemmas.List.Elements.{filter_map-append}
use Rattle.cli_file_stores.specs.Sums.{SumOfEvent}
use Rattle.cli_record.specs.RecordFiles.{FileToRead, ReadValue, files_read, reading_of, read_value}

-- what holds where a call succeeds, changed
pub on_ok : {T E P Q : Type 0} (r : Result T E) → OnOk r P → (P → Q) → OnOk r Q
on_ok (Ok x) h f = f h
on_ok (Err e) h f = tt

-- the lines of files, and then of others
pub files_read_append : (xs ys : List FileToRead) (sums : List SumOfEvent) → files_read (xs ++ ys) sums ≡ files_read xs sums ++ files_read ys sums
files_read_append xs ys sums = filter_map-append (λ f. option_map (read_value f) (reading_of sums f.name)) xs ys

-- lines behind others, of files and then of others
pub read_on : {new after : List ReadValue} (old : List ReadValue) (xs ys : List FileToRead) (sums : List SumOfEvent) → new ≡ old ++ files_read xs sums → after ≡ new ++ files_read ys sums
    → after ≡ old ++ files_read (xs ++ ys) sums
read_on old xs ys sums first next =
    next ∙ ap (λ (l : List ReadValue). l ++ files_read ys sums) first ∙ append_assoc old (files_read xs sums) (files_read ys sums)
    ∙ ap (λ (l : List ReadValue). old ++ l) (sym (files_read_append xs ys sums))
