-- The lines of the program that stand in place of an answer.
use Rattle.std.specs.Prelude.{ℕ, List, ◌++◌, codes, decimal}
use Rattle.field_lines.specs.declared.fault.LineFault.{LineFault}
use Rattle.field_lines.specs.declared.fault.LineFault.TheVariants as lines
use Rattle.pl94_counties.specs.declared.fault.File.{File}
use Rattle.pl94_counties.specs.declared.fault.File.TheVariants as files
use Rattle.pl94_counties.specs.declared.fault.Pl94Kind.{Pl94Kind}
use Rattle.pl94_counties.specs.declared.fault.Pl94Kind.TheVariants as kinds
use Rattle.pl94_counties.specs.declared.fault.Pl94Fault.{Pl94Fault}
use Rattle.pl94_counties.specs.declared.county_names.NamedFault.{NamedFault}
use Rattle.pl94_counties.specs.declared.county_names.NamedFault.TheVariants as names
use Rattle.people_table.specs.declared.fault.PeopleKind.{PeopleKind}
use Rattle.people_table.specs.declared.fault.PeopleKind.TheVariants as people
use Rattle.people_table.specs.declared.fault.PeopleFault.{PeopleFault}
use Rattle.grouping_reader.specs.declared.fault.CodeLineKind.{CodeLineKind}
use Rattle.grouping_reader.specs.declared.fault.CodeLineKind.TheVariants as lines_of_codes
use Rattle.grouping_reader.specs.declared.fault.CodeLineFault.{CodeLineFault}
use Rattle.baf_auditor.specs.declared.fault.AssignmentKind.{AssignmentKind}
use Rattle.baf_auditor.specs.declared.fault.AssignmentKind.TheVariants as lines_of_assignments
use Rattle.baf_auditor.specs.declared.fault.AssignmentFault.{AssignmentFault}
use Rattle.grouping_report.specs.FaultWords.{grouping_fault_words}
use Rattle.county_problem.specs.declared.grouping_fault.GroupingFault.{GroupingFault}
use Rattle.county_problem.specs.declared.grouping_fault.GroupingFault.TheVariants as verdict
use Rattle.cli_answers.specs.declared.refusal.InputFile.{InputFile}
use Rattle.cli_answers.specs.declared.refusal.InputFile.TheVariants.{Geo, Segment1, People, Adjacency, Links, Withdrawn}
use Rattle.cli_answers.specs.declared.refusal.InputFile.TheVariants.{Grouping, Assignments, Events, Pieces}
use Rattle.county_problem.specs.declared.fault.ProblemFault.{ProblemFault}
use Rattle.county_problem.specs.declared.fault.ProblemFault.TheVariants as problem
use Rattle.certificate_lines.specs.declared.fault.TextFault.{TextFault}
use Rattle.certificate_lines.specs.declared.fault.TextKind.{TextKind}
use Rattle.certificate_lines.specs.declared.fault.TextKind.TheVariants as text
use Rattle.certificate_lines.specs.KindWords.{text_kind_word}
use Rattle.share_board.specs.declared.fault.BoardFault.{BoardFault}
use Rattle.share_board.specs.declared.fault.BoardFault.TheVariants as board
use Rattle.cli_file_stores.specs.declared.file_store.FileStoreFault.{FileStoreFault}
use Rattle.cli_file_stores.specs.declared.file_store.FileStoreFault.TheVariants as file_store
use Rattle.county_codes.specs.Digits.{five_digits}
use Rattle.cli_answers.specs.Answer.{Answered, budget_answer, memory_answer}

-- the word of a line fault
abbrev pub line_fault_word : LineFault → List ℕ
line_fault_word (lines.LineTooLong line) = codes "LineTooLong"
line_fault_word lines.TooManyLines = codes "TooManyLines"
line_fault_word (lines.ReadFault line) = codes "ReadFault"
line_fault_word lines.Memory = codes "Memory"

-- the word of a kind of fault in a PL 94-171 file: for a line fault, that fault's
abbrev pub kind_word : Pl94Kind → List ℕ
kind_word kinds.TooFewFields = codes "TooFewFields"
kind_word kinds.BadCode = codes "BadCode"
kind_word kinds.BadNumber = codes "BadNumber"
kind_word kinds.DoubleRecord = codes "DoubleRecord"
kind_word kinds.NoRecord = codes "NoRecord"
kind_word kinds.DoubleCounty = codes "DoubleCounty"
kind_word kinds.DoubleBlock = codes "DoubleBlock"
kind_word kinds.NoCounties = codes "NoCounties"
kind_word kinds.NoBlocks = codes "NoBlocks"
kind_word kinds.TooMany = codes "TooMany"
kind_word (kinds.Lower fault) = line_fault_word fault
kind_word kinds.Memory = codes "Memory"

-- the word of a kind of fault of a table of counties
abbrev pub people_word : PeopleKind → List ℕ
people_word people.BadLine = codes "BadLine"
people_word people.BadCode = codes "BadCode"
people_word people.BadNumber = codes "BadNumber"
people_word people.BadName = codes "BadName"
people_word people.DoubleCounty = codes "DoubleCounty"
people_word people.NoCounties = codes "NoCounties"
people_word (people.Lower fault) = line_fault_word fault
people_word people.Memory = codes "Memory"

-- the word of a kind of fault of a file whose lines have county codes
abbrev pub code_line_word : CodeLineKind → List ℕ
code_line_word lines_of_codes.TooFewFields = codes "TooFewFields"
code_line_word lines_of_codes.BadSign = codes "BadSign"
code_line_word lines_of_codes.BadSeats = codes "BadSeats"
code_line_word lines_of_codes.BadCode = codes "BadCode"
code_line_word (lines_of_codes.Lower fault) = line_fault_word fault
code_line_word lines_of_codes.Memory = codes "Memory"

-- the word of a kind of fault of an assignment file
abbrev pub assignment_word : AssignmentKind → List ℕ
assignment_word lines_of_assignments.TooFewFields = codes "TooFewFields"
assignment_word lines_of_assignments.BadCode = codes "BadCode"
assignment_word lines_of_assignments.BadLabel = codes "BadLabel"
assignment_word lines_of_assignments.TooMany = codes "TooMany"
assignment_word (lines_of_assignments.Lower fault) = line_fault_word fault
assignment_word lines_of_assignments.Memory = codes "Memory"

-- the line that is shown of a line fault: 0 where the text has too many
abbrev pub cut_line : LineFault → ℕ → ℕ
cut_line lines.TooManyLines line = 0
cut_line fault line = line

-- the line that is shown of a fault of the geographic header or of segment 1
abbrev pub shown_line : Pl94Kind → ℕ → ℕ
shown_line (kinds.Lower fault) line = cut_line fault line
shown_line kind line = line

-- the line that is shown of a fault of a table of counties
abbrev pub shown_people_line : PeopleKind → ℕ → ℕ
shown_people_line (people.Lower fault) line = cut_line fault line
shown_people_line kind line = line

-- the line that is shown of a fault of a file whose lines have county codes
abbrev pub shown_code_line : CodeLineKind → ℕ → ℕ
shown_code_line (lines_of_codes.Lower fault) line = cut_line fault line
shown_code_line kind line = line

-- the line that is shown of a fault of an assignment file
abbrev pub shown_assignment_line : AssignmentKind → ℕ → ℕ
shown_assignment_line (lines_of_assignments.Lower fault) line = cut_line fault line
shown_assignment_line kind line = line

-- the word of an input file
abbrev pub file_word : InputFile → List ℕ
file_word Geo = codes "geo"
file_word Segment1 = codes "segment1"
file_word People = codes "people"
file_word Adjacency = codes "adjacency"
file_word Links = codes "links"
file_word Withdrawn = codes "withdrawn"
file_word Grouping = codes "grouping"
file_word Assignments = codes "assignments"
file_word Events = codes "events"
file_word Pieces = codes "pieces"

-- the input file that a PL 94-171 file is
abbrev pub input_of : File → InputFile
input_of files.Geo = Geo
input_of files.Segment1 = Segment1

-- `refused FILE KIND line L`
unfoldable pub refused_line : List ℕ → List ℕ → ℕ → List ℕ
refused_line file kind line =
    codes "refused " ++ file ++ codes " " ++ kind ++ codes " line " ++ decimal line ++ codes "\n"

-- an input file is refused for a fault at a line
abbrev pub input_answer : InputFile → List ℕ → ℕ → Answered
input_answer file word line = record { text = refused_line (file_word file) word line; status = 4 }

-- a fault of this kind, at this line of a PL 94-171 file
abbrev pub file_answer : InputFile → Pl94Kind → ℕ → Answered
file_answer file kinds.Memory line = memory_answer
file_answer file kind line = input_answer file (kind_word kind) (shown_line kind line)

-- the answer to a fault of a PL 94-171 file
abbrev pub pl94_answer : Pl94Fault → Answered
pl94_answer fault = file_answer (input_of fault.file) fault.kind fault.line

-- the answer to a fault of the files of a state, or of the NAME of a county
abbrev pub named_answer : NamedFault → Answered
named_answer (names.Files fault) = pl94_answer fault
named_answer (names.BadName line) = input_answer Geo (codes "BadName") line

-- a fault of this kind, at this line of a table of counties
abbrev pub people_line_answer : PeopleKind → ℕ → Answered
people_line_answer people.Memory line = memory_answer
people_line_answer kind line = input_answer People (people_word kind) (shown_people_line kind line)

-- the answer to a fault of a table of counties
abbrev pub people_answer : PeopleFault → Answered
people_answer fault = people_line_answer fault.kind fault.line

-- a fault of this kind, at this line of a file whose lines have county codes
abbrev pub code_line_answer : InputFile → CodeLineKind → ℕ → Answered
code_line_answer file lines_of_codes.Memory line = memory_answer
code_line_answer file kind line = input_answer file (code_line_word kind) (shown_code_line kind line)

-- the answer to a fault of a file whose lines have county codes
abbrev pub code_file_answer : InputFile → CodeLineFault → Answered
code_file_answer file fault = code_line_answer file fault.kind fault.line

-- a fault of this kind, at this line of an assignment file
abbrev pub assignment_line_answer : AssignmentKind → ℕ → Answered
assignment_line_answer lines_of_assignments.Memory line = memory_answer
assignment_line_answer kind line = input_answer Assignments (assignment_word kind) (shown_assignment_line kind line)

-- the answer to a fault of an assignment file
abbrev pub assignment_answer : AssignmentFault → Answered
assignment_answer fault = assignment_line_answer fault.kind fault.line

-- a fault of this kind, at this line of a text that is read from such a file
abbrev pub text_line_answer : InputFile → TextKind → ℕ → Answered
text_line_answer file text.Memory line = memory_answer
text_line_answer file kind line = input_answer file (text_kind_word kind) line

-- the answer to a fault of a text of events, and to one of a text of rounds and open pieces
abbrev pub events_answer : TextFault → Answered
events_answer fault = text_line_answer Events fault.kind fault.line

abbrev pub pieces_answer : TextFault → Answered
pieces_answer fault = text_line_answer Pieces fault.kind fault.line

-- `fault KIND` with its group, its county or its seats
unfoldable pub fault_line : GroupingFault → List ℕ
fault_line fault = codes "fault " ++ grouping_fault_words fault ++ codes "\n"

-- the answer to a fault of a grouping
abbrev pub verdict_answer : GroupingFault → Answered
verdict_answer verdict.Memory = memory_answer
verdict_answer fault = record { text = fault_line fault; status = 1 }

-- a word after a blank
abbrev pub after_blank : List ℕ → List ℕ
after_blank word = codes " " ++ word

-- what is refused of a problem, with its codes or its set
abbrev pub problem_words : ProblemFault → List ℕ
problem_words problem.BadWindow = codes "BadWindow"
problem_words problem.SeatsOutOfRange = codes "SeatsOutOfRange"
problem_words problem.TooManyCounties = codes "TooManyCounties"
problem_words (problem.DoubleCounty code) = codes "DoubleCounty" ++ after_blank (five_digits code)
problem_words problem.NoPeople = codes "NoPeople"
problem_words (problem.EmptyWithdrawn set) = codes "EmptyWithdrawn" ++ after_blank (decimal set)
problem_words (problem.UnknownWithdrawn code) = codes "UnknownWithdrawn" ++ after_blank (five_digits code)
problem_words (problem.WithdrawnTwice code) = codes "WithdrawnTwice" ++ after_blank (five_digits code)
problem_words problem.WithdrawnSeats = codes "WithdrawnSeats"
problem_words (problem.UnknownPair a b) =
    codes "UnknownPair" ++ after_blank (five_digits a) ++ after_blank (five_digits b)
problem_words problem.Memory = codes "Memory"

-- `refused problem KIND` with its codes or its set
unfoldable pub refused_problem : ProblemFault → List ℕ
refused_problem fault = codes "refused problem " ++ problem_words fault ++ codes "\n"

-- the answer to a fault of the problem
abbrev pub problem_answer : ProblemFault → Answered
problem_answer problem.Memory = memory_answer
problem_answer fault = record { text = refused_problem fault; status = 4 }

-- the word of a board's fault; a target that isn't lawful has the board's word alone
abbrev pub board_word : BoardFault → List ℕ
board_word board.DepthOutOfRange = codes "DepthOutOfRange"
board_word board.WrongOrder = codes "WrongOrder"
board_word (board.Target fault) = codes "Target"
board_word board.LimitTooSmall = codes "LimitTooSmall"
board_word board.LimitTooLarge = codes "LimitTooLarge"
board_word board.TooManyPieces = codes "TooManyPieces"
board_word board.Budget = codes "Budget"
board_word board.Memory = codes "Memory"

-- `refused board KIND`
unfoldable pub refused_board : List ℕ → List ℕ
refused_board kind = codes "refused board " ++ kind ++ codes "\n"

-- the answer to a fault of the board: a budget that is too small to open it is answered as that of a check is
abbrev pub board_answer : BoardFault → Answered
board_answer board.Budget = budget_answer
board_answer board.Memory = memory_answer
board_answer fault = record { text = refused_board (board_word fault); status = 4 }

-- the word of a fault of the file store
abbrev pub file_store_word : FileStoreFault → List ℕ
file_store_word file_store.Missing = codes "Missing"
file_store_word file_store.TooLarge = codes "TooLarge"
file_store_word file_store.Device = codes "Device"
file_store_word file_store.Memory = codes "Memory"

-- `device NAME KIND`
unfoldable pub device_line : List ℕ → List ℕ → List ℕ
device_line name kind = codes "device " ++ name ++ codes " " ++ kind ++ codes "\n"

-- a fault of the file store under a name
abbrev pub file_store_answer : List ℕ → FileStoreFault → Answered
file_store_answer name file_store.Memory = memory_answer
file_store_answer name fault = record { text = device_line name (file_store_word fault); status = 5 }
