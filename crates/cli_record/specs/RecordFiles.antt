-- The files that the record of a run lists.
use Rattle.std.specs.Prelude.{ℕ, nat_le, ◌==◌, ◌&&◌, Bool, true, false, List, [], ◌∷◌, ◌++◌, Option, Some, None, find, filter}
use Rattle.std.specs.Prelude.{if◌then◌else◌}
use Rattle.std.specs.List.{filter_map}
use Rattle.std.specs.Option.{option_map, option_or}
use Rattle.std.specs.Borrow.{Bor}
use Rattle.std.specs.Str.{bytes_eq}
use Rattle.cli_words.specs.declared.words.CensusWords.{CensusWords}
use Rattle.cli_words.specs.declared.words.CountyWords.{CountyWords}
use Rattle.cli_words.specs.declared.words.CountyWords.TheVariants.{Census, People}
use Rattle.cli_words.specs.declared.words.AuditWords.{AuditWords}
use Rattle.cli_words.specs.declared.words.ProblemWords.{ProblemWords}
use Rattle.cli_words.specs.declared.words.BoardWords.{BoardWords}
use Rattle.cli_words.specs.declared.words.StoredWords.{StoredWords}
use Rattle.cli_words.specs.declared.words.CommandWords.{CommandWords}
use Rattle.cli_words.specs.declared.words.CommandWords.TheVariants.{Size, Judge, Solve, Check, Audit, List as ListAll}
use Rattle.cli_words.specs.declared.words.CommandWords.TheVariants.{Share, Piece, Worker}
use Rattle.cli_words.specs.Words.{standard_input}
use Rattle.cli_record.specs.declared.run.ReadFile.{ReadFile}
use Rattle.cli_record.specs.declared.run.ReadFile.TheVariants as files
use Rattle.cli_record.specs.declared.run.StoreOption.{StoreOption}
use Rattle.cli_record.specs.declared.run.StoreOption.TheVariants as options
use Rattle.cli_file_stores.specs.ByteSums.{SumValue}
use Rattle.cli_file_stores.specs.declared.sums.EventKind.{EventKind}
use Rattle.cli_file_stores.specs.declared.sums.EventKind.TheVariants.{Whole, Part, Taken, Failed}
use Rattle.cli_file_stores.specs.Sums.{SumOfEvent}

-- a file that a command reads: which one it is, and its name
pub record FileToRead : Type 0 where
  pub file : ReadFile
  pub name : List ℕ

abbrev pub file_named : ReadFile → List ℕ → FileToRead
file_named file name = record { file = file; name = name }

-- a file that is read if the words name it
abbrev pub if_named : ReadFile → Option (Bor (List ℕ)) → List FileToRead
if_named file None = []
if_named file (Some name) = file_named file name.now ∷ []

-- the two census files
abbrev pub census_files : CensusWords → List FileToRead
census_files w = file_named files.Geo w.geo.now ∷ file_named files.Segment1 w.segment.now ∷ []

-- the files of the counties: the two census files, or the table of counties
abbrev pub county_files : CountyWords → List FileToRead
county_files (Census census) = census_files census
county_files (People table) = file_named files.People table.now ∷ []

-- the census files that `audit` reads for its blocks, where the counties aren't read from them
abbrev pub block_files : CountyWords → CensusWords → List FileToRead
block_files (Census counties) census = []
block_files (People table) census = census_files census

-- the files of a plan: the grouping, and the assignments
abbrev pub plan_files : AuditWords → List FileToRead
plan_files w = file_named files.Grouping w.grouping.now ∷ file_named files.Assignments w.assignments.now ∷ []

-- the files of a problem
abbrev pub problem_files : ProblemWords → List FileToRead
problem_files w =
    county_files w.common.counties ++ (file_named files.Adjacency w.adjacency.now
    ∷ (if_named files.Links w.links ++ if_named files.Withdrawn w.withdrawn))

-- the files of a problem, and another one
abbrev pub problem_and : ProblemWords → ReadFile → List ℕ → List FileToRead
problem_and w file name = problem_files w ++ file_named file name ∷ []

-- the files of a board
abbrev pub board_files : BoardWords → List FileToRead
board_files w = problem_and w.problem files.Grouping w.grouping.now

-- the files of a board, and that of its events
abbrev pub board_and_events : BoardWords → List ℕ → List FileToRead
board_and_events w events = board_files w ++ file_named files.Events events ∷ []

-- the files that a command reads, in the order in which it opens each of them for the first time
abbrev pub files_to_read : CommandWords → List FileToRead
files_to_read (Size w) = county_files w.counties
files_to_read (Judge w) =
    problem_and w.problem files.Grouping w.grouping.now ++ if_named files.Certificate w.certificate
files_to_read (Solve w) = problem_files w.problem
files_to_read (Check w) = problem_and w.check.problem files.Certificate w.check.certificate.now
files_to_read (Audit w) =
    problem_files w.problem ++ (block_files w.problem.common.counties w.census ++ plan_files w)
files_to_read (ListAll w) =
    problem_files w.check.problem
    ++ (if_named files.Grouping w.which ++ file_named files.Certificate w.check.certificate.now ∷ [])
files_to_read (Share w) = board_and_events w.board w.events.now
files_to_read (Piece w) = board_files w.board ++ if_named files.Events w.events
files_to_read (Worker w) = problem_and w.problem files.Events standard_input

-- whether an event went so
abbrev pub went : EventKind → EventKind → Bool
went Whole Whole = true
went Part Part = true
went Taken Taken = true
went Failed Failed = true
went _ _ = false

-- whether an event of this name went so
abbrev pub is_of : EventKind → List ℕ → SumOfEvent → Bool
is_of kind name s = went kind s.kind && bytes_eq s.name name

-- the reading of a file: the first that came to the end of the file, or else the first that was left before it
abbrev pub reading_of : List SumOfEvent → List ℕ → Option SumOfEvent
reading_of sums name = option_or (find (is_of Whole name) sums) (find (is_of Part name) sums)

-- a line of a file that was read
pub record ReadValue : Type 0 where
  pub file : ReadFile
  pub sum : SumValue
  pub name : List ℕ
  pub left : Bool

abbrev pub read_value : FileToRead → SumOfEvent → ReadValue
read_value f s = record { file = f.file; sum = s.sum; name = f.name; left = went Part s.kind }

-- each file that was read, with the sum of its reading
abbrev pub files_read : List FileToRead → List SumOfEvent → List ReadValue
files_read named_files sums = filter_map (λ f. option_map (read_value f) (reading_of sums f.name)) named_files

-- an option whose file is stored if the words name it
abbrev pub if_given : StoreOption → Option (Bor (List ℕ)) → List StoreOption
if_given option None = []
if_given option (Some name) = option ∷ []

-- the option of a listed grouping
abbrev pub if_listed : Option StoredWords → List StoreOption
if_listed None = []
if_listed (Some w) = options.Out ∷ []

-- options for a run that ends with a status
abbrev pub at_status : ℕ → ℕ → List StoreOption → List StoreOption
at_status want status list = if status == want then list else []

-- options for a run that ends with status 0 or 1
abbrev pub if_answered : ℕ → List StoreOption → List StoreOption
if_answered status list = if nat_le status 1 then list else []

-- The options whose files a command stores, in order, where it ends with this status: the certificate of a proof, the
-- grouping and the table where there is a grouping, the events of a search that is open, and the table of the districts
-- behind each audit. `list` stores its files with status 1 too, if it tells that a grouping isn't listed, and `judge` its
-- table, if another grouping has greater counts.
abbrev pub options_to_store : CommandWords → ℕ → List StoreOption
options_to_store (Judge w) status = if_answered status (if_given options.Table w.table)
options_to_store (Solve w) status =
    (if status == 3 then [] else if_given options.Certificate w.certificate)
    ++ (if status == 1 then [] else if_given options.Out w.out ++ if_given options.Table w.table)
    ++ at_status 3 status (if_given options.Events w.events)
options_to_store (Check w) status = at_status 0 status (if_given options.Table w.table)
options_to_store (Audit w) status = if_answered status (if_given options.Districts w.districts)
options_to_store (ListAll w) status =
    if_answered status (if_listed w.stored ++ if_given options.Groupings w.groupings)
options_to_store (Share w) status = at_status 0 status (if_given options.Certificate w.certificate)
options_to_store command status = []

-- a line of a file that was stored
pub record StoredValue : Type 0 where
  pub option : StoreOption
  pub sum : SumValue
  pub name : List ℕ

abbrev pub stored_value : StoreOption → SumOfEvent → StoredValue
stored_value option s = record { option = option; sum = s.sum; name = s.name }

-- each option with the next of the files that were stored
abbrev pub with_options : List StoreOption → List SumOfEvent → List StoredValue
with_options store_options [] = []
with_options [] (s ∷ sums) = []
with_options (option ∷ more) (s ∷ sums) = stored_value option s ∷ with_options more sums

-- each file that was stored, with its option and its sum
abbrev pub files_stored : List StoreOption → List SumOfEvent → List StoredValue
files_stored store_options sums = with_options store_options (filter (λ s. went Taken s.kind) sums)

-- the file that the words give for the record of the run
abbrev pub record_file_of : CommandWords → Option (Bor (List ℕ))
record_file_of (Size w) = w.record_file
record_file_of (Judge w) = w.problem.common.record_file
record_file_of (Solve w) = w.problem.common.record_file
record_file_of (Check w) = w.check.problem.common.record_file
record_file_of (Audit w) = w.problem.common.record_file
record_file_of (ListAll w) = w.check.problem.common.record_file
record_file_of (Share w) = w.board.problem.common.record_file
record_file_of (Piece w) = w.board.problem.common.record_file
record_file_of (Worker w) = w.problem.common.record_file

-- the name of the file that the words give for the record of the run
abbrev pub record_name_of : CommandWords → Option (List ℕ)
record_name_of command = option_map (λ n. n.now) (record_file_of command)
