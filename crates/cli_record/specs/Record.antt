-- The record of a run.
use Rattle.std.specs.Prelude.{ℕ, Bool, List, [], ◌++◌, flat_map, codes, decimal, if◌then◌else◌}
use Rattle.std.specs.String.{string_bytes}
use Rattle.cli_record.specs.declared.run.ReadFile.{ReadFile}
use Rattle.cli_record.specs.declared.run.ReadFile.TheVariants as files
use Rattle.cli_record.specs.declared.run.StoreOption.{StoreOption}
use Rattle.cli_record.specs.declared.run.StoreOption.TheVariants as options
use Rattle.cli_record.specs.declared.run.FileRead.{FileRead}
use Rattle.cli_record.specs.declared.run.FileStored.{FileStored}
use Rattle.cli_record.specs.declared.run.Run.{Run}
use Rattle.cli_record.specs.Escapes.{escaped}
use Rattle.cli_file_stores.specs.ByteSums.{SumValue}

-- the word of a file that is read, as lines of refusal have it
abbrev pub record_file_word : ReadFile → List ℕ
record_file_word files.Geo = codes "geo"
record_file_word files.Segment1 = codes "segment1"
record_file_word files.People = codes "people"
record_file_word files.Adjacency = codes "adjacency"
record_file_word files.Links = codes "links"
record_file_word files.Withdrawn = codes "withdrawn"
record_file_word files.Grouping = codes "grouping"
record_file_word files.Assignments = codes "assignments"
record_file_word files.Events = codes "events"
record_file_word files.Certificate = codes "certificate"

-- the word of an option that names a file to store
abbrev pub option_word : StoreOption → List ℕ
option_word options.Certificate = codes "certificate"
option_word options.Out = codes "out"
option_word options.Table = codes "table"
option_word options.Groupings = codes "groupings"
option_word options.Districts = codes "districts"
option_word options.Events = codes "events"

-- a count of bytes, their digest and a name, with a blank before each
unfoldable pub named_sum : SumValue → List ℕ → List ℕ
named_sum sum name = codes " " ++ decimal sum.bytes ++ codes " " ++ sum.digest ++ codes " " ++ escaped name

-- what stands behind the name of a file: ` left` if the file was left before its end
abbrev pub left_word : Bool → List ℕ
left_word left = if left then codes " left" else []

-- a word and some bytes on a line
unfoldable pub line_after : List ℕ → List ℕ → List ℕ
line_after word bytes = word ++ escaped bytes ++ codes "\n"

-- the line of a word
abbrev pub word_line : List ℕ → List ℕ
word_line word = line_after (codes "word ") word

-- the line of a file that was read
unfoldable pub read_line : FileRead → List ℕ
read_line r =
    codes "read " ++ record_file_word r.file ++ named_sum r.sum (string_bytes r.name) ++ left_word r.left ++ codes "\n"

-- the line of a file that was stored
unfoldable pub stored_line : FileStored → List ℕ
stored_line s = codes "stored " ++ option_word s.option ++ named_sum s.sum (string_bytes s.name) ++ codes "\n"

-- the line of a status
unfoldable pub status_line : ℕ → List ℕ
status_line status = codes "status " ++ decimal status ++ codes "\n"

-- what the text is, and the version of the program
unfoldable pub head_lines : List ℕ → List ℕ
head_lines version = codes "countygroups record 1\n" ++ line_after (codes "version ") version

-- what the text is, the version, and a line for each word, in order
abbrev pub asked_lines : Run → List ℕ
asked_lines run = head_lines (string_bytes run.version) ++ flat_map (λ w. word_line (string_bytes w)) run.words.items

-- a line for each file that was read, and then for each that was stored, in order
abbrev pub file_lines : Run → List ℕ
file_lines run = flat_map read_line run.reads.items ++ flat_map stored_line run.stores.items

-- the status and the answer
abbrev pub end_lines : Run → List ℕ
end_lines run = status_line run.status ++ line_after (codes "answer ") run.answer.items

-- the record of a run
abbrev pub record_text : Run → List ℕ
record_text run = asked_lines run ++ file_lines run ++ end_lines run
