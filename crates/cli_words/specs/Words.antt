-- What the words of the command line say.
use Rattle.std.specs.Prelude.{◌≡◌, ◌≢◌, ◌≤◌, ◌⊎◌, ⊤, ℕ, Bool, cond, true, false, [], ◌∷◌, List, Option, Some, None, codes}
use Rattle.std.specs.Borrow.{Bor}
use Rattle.std.specs.Option.{IsSomeAnd}
use Rattle.std.specs.Str.{bytes_eq}
use Rattle.clap.specs.Words.{Kinds, Row, Text, fault_of, first_of, subcommand_of, takes}
use Rattle.clap.specs.Takes.{is_given}
use Rattle.county_codes.specs.declared.tolerance.Tolerance.{Tolerance}
use Rattle.clap.specs.declared.error.kind.ErrorKind.{ErrorKind}
use Rattle.clap.specs.declared.error.kind.ErrorKind.TheVariants.{DisplayHelp, DisplayVersion, OutOfMemory}
use Rattle.cli_words.specs.Command.{countygroups}
use Rattle.cli_words.specs.Options.{Spells}
use Rattle.cli_words.specs.Tolerance.{tolerance_in}
use Rattle.cli_words.specs.declared.words.CommandWords.{CommandWords}
use Rattle.cli_words.specs.declared.words.CommandWords.TheVariants.{Audit, Check, Worker, Judge}
use Rattle.cli_words.specs.declared.words.CommandWords.TheVariants.{List as ListCommand, Piece, Share, Size, Solve}
use Rattle.cli_words.specs.declared.words.AuditWords.{AuditWords}
use Rattle.cli_words.specs.declared.words.BoardWords.{BoardWords}
use Rattle.cli_words.specs.declared.words.CensusWords.{CensusWords}
use Rattle.cli_words.specs.declared.words.CertificateWords.{CertificateWords}
use Rattle.cli_words.specs.declared.words.CheckWords.{CheckWords}
use Rattle.cli_words.specs.declared.words.CommonWords.{CommonWords}
use Rattle.cli_words.specs.declared.words.CountyWords.{CountyWords}
use Rattle.cli_words.specs.declared.words.CountyWords.TheVariants.{Census, People}
use Rattle.cli_words.specs.declared.words.Form.{Form}
use Rattle.cli_words.specs.declared.words.Form.TheVariants.{Codes, Names, Object}
use Rattle.cli_words.specs.declared.words.WorkerWords.{WorkerWords}
use Rattle.cli_words.specs.declared.words.JudgeWords.{JudgeWords}
use Rattle.cli_words.specs.declared.words.ListWords.{ListWords}
use Rattle.cli_words.specs.declared.words.PieceWords.{PieceWords}
use Rattle.cli_words.specs.declared.words.ProblemWords.{ProblemWords}
use Rattle.cli_words.specs.declared.words.RoundWords.{RoundWords}
use Rattle.cli_words.specs.declared.words.RoundWords.TheVariants.{Plain, Wide}
use Rattle.cli_words.specs.declared.words.ShareWords.{ShareWords}
use Rattle.cli_words.specs.declared.words.SharedWords.{SharedWords}
use Rattle.cli_words.specs.declared.words.SolveWords.{SolveWords}
use Rattle.cli_words.specs.declared.words.StoredWords.{StoredWords}
use Rattle.cli_words.specs.declared.end.OptionsFault.{OptionsFault}
use Rattle.cli_words.specs.declared.end.OptionsFault.TheVariants.{CountyFiles, Depth, NumberOrOut, PeopleAndCensus}
use Rattle.cli_words.specs.declared.end.OptionsFault.TheVariants.{Tolerance as NoTolerance, ToleranceAndPart, WhichAndStored}
use Rattle.cli_words.specs.declared.end.WordsEnd.{WordsEnd}
use Rattle.cli_words.specs.declared.end.WordsEnd.TheVariants.{Help, Version, Usage, Memory}

-- the name of the file that `worker` reads as it comes: standard input
abbrev pub standard_input : Text
standard_input = codes "/dev/stdin"

-- the words as clap reads them: the word `help` alone is `--help`
abbrev pub words_read : List Text → List Text
words_read [] = []
words_read (word ∷ []) = cond (bytes_eq word (codes "help")) (codes "--help" ∷ []) (word ∷ [])
words_read (word ∷ next ∷ rest) = word ∷ next ∷ rest

-- the subcommand that the words name, and the values of its options
unfoldable pub subcommand_in : List Text → Option (Text × List Row)
subcommand_in words = subcommand_of countygroups (words_read words)

-- clap takes the words: they have no fault and ask neither for help nor for the version
unfoldable pub takes_words : List Text → Bool
takes_words words = takes countygroups (words_read words)

-- what stops clap first in the words: nothing, a call for help or for the version, or a mistake
unfoldable pub faults_of : List Text → Kinds
faults_of words = fault_of countygroups (words_read words)

-- the value of the option writes the number
abbrev pub GivesNumber : Text → List Row → ℕ → Type 0
GivesNumber name rows n = IsSomeAnd (first_of name rows) (λ text. Spells text n)

-- The values of `--part` and `--of` are a tolerance: a part, 0 to 500, of a whole, 1 to 1,000.
-- If the words don't give the part, it is 1. If they don't give the whole, it is 20.
-- The part may be more than half of the whole: that is no fault of the words.
pub record GivesPartAndWhole (rows : List Row) (tolerance : Tolerance) : Type 0 where
  pub part : GivesNumber (codes "part") rows tolerance.numerator
  pub most : tolerance.numerator ≤ 500
  pub default_part : is_given (codes "part") rows ≡ false → tolerance.numerator ≡ 1
  pub whole : GivesNumber (codes "of") rows tolerance.denominator
  pub range : (1 ≤ tolerance.denominator) × (tolerance.denominator ≤ 1000)
  pub default_whole : is_given (codes "of") rows ≡ false → tolerance.denominator ≡ 20

-- the value of `--tolerance` writes this tolerance, or none
abbrev pub WritesTolerance : List Row → Option Tolerance → Type 0
WritesTolerance rows tolerance = IsSomeAnd (first_of (codes "tolerance") rows) (λ text. tolerance_in text ≡ tolerance)

-- The values of a subcommand's options say which tolerance is meant: the one that the value of `--tolerance` writes
-- exactly where the words give it, and else the one of `--part` and `--of`.
abbrev pub SaysTolerance : List Row → Tolerance → Type 0
SaysTolerance rows tolerance =
    ((is_given (codes "tolerance") rows ≡ true) × WritesTolerance rows (Some tolerance))
    ⊎ ((is_given (codes "tolerance") rows ≡ false) × GivesPartAndWhole rows tolerance)

-- what the words give of an option that need not be given: its text, or none exactly where they don't give it
abbrev pub GivesText : Text → List Row → Option (Bor Text) → Type 0
GivesText name rows None = is_given name rows ≡ false
GivesText name rows (Some text) = (is_given name rows ≡ true) × (first_of name rows ≡ Some text.now)

-- whether a flag is set: its value is the text `true`, which clap gives it where the words have it
abbrev pub is_set : Option Text → Bool
is_set None = false
is_set (Some text) = bytes_eq text (codes "true")

-- the form of an answer: an object where `--json` is set, else a text with names where `--names` is, and else a text
-- with codes
abbrev pub form_of : (json names : Bool) → Form
form_of true names = Object
form_of false true = Names
form_of false false = Codes

-- the values of a subcommand's options name the two census files
pub record GivesCensus (rows : List Row) (words : CensusWords) : Type 0 where
  pub geo : first_of (codes "geo") rows ≡ Some words.geo.now
  pub segment : first_of (codes "segment") rows ≡ Some words.segment.now

-- the values of a subcommand's options say which files give the counties: the file of --people exactly where the words
-- give it, and else the two census files
abbrev pub GivesCounties : List Row → CountyWords → Type 0
GivesCounties rows (Census words) = (is_given (codes "people") rows ≡ false) × GivesCensus rows words
GivesCounties rows (People name) =
    (is_given (codes "people") rows ≡ true) × (first_of (codes "people") rows ≡ Some name.now)

-- the values of a subcommand's options say which files give the counties, the tolerance, the file of the record, and
-- the form of the answer
pub record SaysShared (rows : List Row) (words : SharedWords) : Type 0 where
  pub counties : GivesCounties rows words.counties
  pub tolerance : SaysTolerance rows words.tolerance
  pub record_file : GivesText (codes "record") rows words.record_file
  pub form : words.form ≡ form_of (is_set (first_of (codes "json") rows)) (is_set (first_of (codes "names") rows))

-- the values of a subcommand's options say what those give that each subcommand has
pub record SaysCommon (rows : List Row) (words : CommonWords) : Type 0 where
  pub counties : GivesCounties rows words.counties
  pub chamber : GivesNumber (codes "chamber") rows words.chamber
  pub seats : (1 ≤ words.chamber) × (words.chamber ≤ 1000)
  pub state : GivesNumber (codes "state") rows words.state
  pub code : words.state ≤ 99
  pub default : is_given (codes "state") rows ≡ false → words.state ≡ 37
  pub tolerance : SaysTolerance rows words.tolerance
  pub record_file : GivesText (codes "record") rows words.record_file
  pub form : words.form ≡ form_of (is_set (first_of (codes "json") rows)) (is_set (first_of (codes "names") rows))

-- the values of a subcommand's options say which problem is meant
pub record SaysProblem (rows : List Row) (words : ProblemWords) : Type 0 where
  pub common : SaysCommon rows words.common
  pub adjacency : first_of (codes "adjacency") rows ≡ Some words.adjacency.now
  pub links : GivesText (codes "links") rows words.links
  pub withdrawn : GivesText (codes "withdrawn") rows words.withdrawn

-- the values of the options of `judge` say which problem and which grouping are meant, which certificate if one is
-- given, how many steps its checker may take, and the file that the table is written to
pub record SaysJudge (rows : List Row) (words : JudgeWords) : Type 0 where
  pub problem : SaysProblem rows words.problem
  pub grouping : first_of (codes "grouping") rows ≡ Some words.grouping.now
  pub certificate : GivesText (codes "certificate") rows words.certificate
  pub budget : GivesNumber (codes "budget") rows words.budget
  pub default : is_given (codes "budget") rows ≡ false → words.budget ≡ 10000000
  pub table : GivesText (codes "table") rows words.table

-- the values of the options of `solve` say which problem is meant, how many steps the search may take, and
-- the files that its certificate, its grouping, its table and its events are written to
pub record SaysSolve (rows : List Row) (words : SolveWords) : Type 0 where
  pub problem : SaysProblem rows words.problem
  pub steps : GivesNumber (codes "steps") rows words.steps
  pub default : is_given (codes "steps") rows ≡ false → words.steps ≡ 10000000
  pub certificate : GivesText (codes "certificate") rows words.certificate
  pub out : GivesText (codes "out") rows words.out
  pub table : GivesText (codes "table") rows words.table
  pub events : GivesText (codes "events") rows words.events

-- the values of the options that give a certificate say which problem and which certificate are meant, and how many
-- steps the checker may take
pub record SaysCertificate (rows : List Row) (words : CertificateWords) : Type 0 where
  pub problem : SaysProblem rows words.problem
  pub certificate : first_of (codes "certificate") rows ≡ Some words.certificate.now
  pub budget : GivesNumber (codes "budget") rows words.budget
  pub default : is_given (codes "budget") rows ≡ false → words.budget ≡ 10000000

-- the values of the options of `check` say what is checked, and the file that the table is written to
pub record SaysCheck (rows : List Row) (words : CheckWords) : Type 0 where
  pub check : SaysCertificate rows words.check
  pub table : GivesText (codes "table") rows words.table

-- the values of the options of `audit` say which problem, which census files of the blocks, which grouping and which
-- assignments are meant, and the file that the table of the districts is written to
pub record SaysAudit (rows : List Row) (words : AuditWords) : Type 0 where
  pub problem : SaysProblem rows words.problem
  pub census : GivesCensus rows words.census
  pub grouping : first_of (codes "grouping") rows ≡ Some words.grouping.now
  pub assignments : first_of (codes "assignments") rows ≡ Some words.assignments.now
  pub districts : GivesText (codes "districts") rows words.districts

-- what the words give of a listed grouping that is to be stored: its number and the file, or neither
abbrev pub GivesStored : List Row → Option StoredWords → Type 0
GivesStored rows None = (is_given (codes "number") rows ≡ false) × (is_given (codes "out") rows ≡ false)
GivesStored rows (Some words) =
    (is_given (codes "number") rows ≡ true) × GivesNumber (codes "number") rows words.number
    × (is_given (codes "out") rows ≡ true) × (first_of (codes "out") rows ≡ Some words.out.now)

-- the values of the options of `list` say by which certificate all best groupings are listed, which listed grouping is
-- stored or whose number is asked for, and the file that the table of all groupings is written to
pub record SaysList (rows : List Row) (words : ListWords) : Type 0 where
  pub check : SaysCertificate rows words.check
  pub stored : GivesStored rows words.stored
  pub which : GivesText (codes "which") rows words.which
  pub groupings : GivesText (codes "groupings") rows words.groupings
  pub apart : (words.which ≡ None) ⊎ (words.stored ≡ None)

-- what the words give of a number that need not be given: the number, or nothing exactly where they don't give it
abbrev pub GivesItsNumber : Text → List Row → Option ℕ → Type 0
GivesItsNumber name rows None = is_given name rows ≡ false
GivesItsNumber name rows (Some n) = (is_given name rows ≡ true) × GivesNumber name rows n

-- what the words give of the rounds of a board: plain ones exactly where they give a depth, with a limit beside it, and
-- else wide ones, with a limit or none
abbrev pub GivesRoundWords : List Row → RoundWords → Type 0
GivesRoundWords rows (Plain limit depth) =
    (is_given (codes "limit") rows ≡ true) × GivesNumber (codes "limit") rows limit
    × (is_given (codes "depth") rows ≡ true) × GivesNumber (codes "depth") rows depth
GivesRoundWords rows (Wide limit) = GivesItsNumber (codes "limit") rows limit × (is_given (codes "depth") rows ≡ false)

-- the values of the options that give a board say which problem, which target and which rounds are meant
pub record SaysBoard (rows : List Row) (words : BoardWords) : Type 0 where
  pub problem : SaysProblem rows words.problem
  pub grouping : first_of (codes "grouping") rows ≡ Some words.grouping.now
  pub round : GivesRoundWords rows words.round

-- the values of the options of `share` say which board and which events are meant, how many steps a test may take, and
-- the file that the certificate is written to
pub record SaysShare (rows : List Row) (words : ShareWords) : Type 0 where
  pub board : SaysBoard rows words.board
  pub events : first_of (codes "events") rows ≡ Some words.events.now
  pub budget : GivesNumber (codes "budget") rows words.budget
  pub default : is_given (codes "budget") rows ≡ false → words.budget ≡ 10000000
  pub certificate : GivesText (codes "certificate") rows words.certificate

-- the values of the options of `piece` say which board, which events and which piece are meant, and how many steps the
-- search may take
pub record SaysPiece (rows : List Row) (words : PieceWords) : Type 0 where
  pub board : SaysBoard rows words.board
  pub events : GivesText (codes "events") rows words.events
  pub round : GivesNumber (codes "round") rows words.round
  pub number : GivesNumber (codes "number") rows words.number
  pub steps : GivesNumber (codes "steps") rows words.steps
  pub default : is_given (codes "steps") rows ≡ false → words.steps ≡ 10000000

-- the values of the options of `worker` say which problem is meant, and how many steps the search of a piece may take
pub record SaysWorker (rows : List Row) (words : WorkerWords) : Type 0 where
  pub problem : SaysProblem rows words.problem
  pub steps : GivesNumber (codes "steps") rows words.steps
  pub default : is_given (codes "steps") rows ≡ false → words.steps ≡ 10000000

-- the values of the options of a subcommand are those of the command
abbrev pub SaysOptions : Text × List Row → CommandWords → Type 0
SaysOptions p (Size words) = (p.0 ≡ codes "size") × SaysCommon p.1 words
SaysOptions p (Judge words) = (p.0 ≡ codes "judge") × SaysJudge p.1 words
SaysOptions p (Solve words) = (p.0 ≡ codes "solve") × SaysSolve p.1 words
SaysOptions p (Check words) = (p.0 ≡ codes "check") × SaysCheck p.1 words
SaysOptions p (Audit words) = (p.0 ≡ codes "audit") × SaysAudit p.1 words
SaysOptions p (ListCommand words) = (p.0 ≡ codes "list") × SaysList p.1 words
SaysOptions p (Share words) = (p.0 ≡ codes "share") × SaysShare p.1 words
SaysOptions p (Piece words) = (p.0 ≡ codes "piece") × SaysPiece p.1 words
SaysOptions p (Worker words) = (p.0 ≡ codes "worker") × SaysWorker p.1 words

-- the words give neither the file of the people nor both census files: none of the three, or one census file alone
abbrev pub LacksCountyFiles : List Row → Type 0
LacksCountyFiles rows =
    (is_given (codes "people") rows ≡ false)
    × ((is_given (codes "geo") rows ≡ false) ⊎ (is_given (codes "segment") rows ≡ false))

-- the words give the file of the people beside a census file
abbrev pub GivesPeopleAndCensus : List Row → Type 0
GivesPeopleAndCensus rows =
    (is_given (codes "people") rows ≡ true)
    × ((is_given (codes "geo") rows ≡ true) ⊎ (is_given (codes "segment") rows ≡ true))

-- the words give the files of the counties once: the file of the people or both census files
pub record GivesCountiesOnce (rows : List Row) (words : CountyWords) : Type 0 where
  pub counties : GivesCounties rows words
  pub enough : LacksCountyFiles rows → ⊥
  pub once : GivesPeopleAndCensus rows → ⊥

-- what is wrong with the files of the counties that the words give
abbrev pub IsCountiesFault : List Row → OptionsFault → Type 0
IsCountiesFault rows CountyFiles = LacksCountyFiles rows
IsCountiesFault rows PeopleAndCensus = GivesPeopleAndCensus rows
IsCountiesFault rows _ = ⊥

-- the words give a tolerance whose text writes none
abbrev pub GivesNoTolerance : List Row → Type 0
GivesNoTolerance rows = (is_given (codes "tolerance") rows ≡ true) × WritesTolerance rows None

-- the words give the tolerance beside its part or its whole
abbrev pub GivesToleranceAndPart : List Row → Type 0
GivesToleranceAndPart rows =
    (is_given (codes "tolerance") rows ≡ true)
    × ((is_given (codes "part") rows ≡ true) ⊎ (is_given (codes "of") rows ≡ true))

-- the words give the tolerance once: by a text that writes it, or by its part and its whole
pub record GivesToleranceOnce (rows : List Row) (tolerance : Tolerance) : Type 0 where
  pub says : SaysTolerance rows tolerance
  pub written : GivesNoTolerance rows → ⊥
  pub once : GivesToleranceAndPart rows → ⊥

-- what is wrong with the tolerance that the words give
abbrev pub IsToleranceFault : List Row → OptionsFault → Type 0
IsToleranceFault rows NoTolerance = GivesNoTolerance rows
IsToleranceFault rows ToleranceAndPart = GivesToleranceAndPart rows
IsToleranceFault rows _ = ⊥

-- the words give the number of a grouping without a file, or a file without a number
abbrev pub AreUnpaired : List Row → Type 0
AreUnpaired rows = is_given (codes "number") rows ≢ is_given (codes "out") rows

-- the words ask for the number of a grouping, and for a listed grouping to be stored
abbrev pub AskAndStore : List Row → Type 0
AskAndStore rows =
    (is_given (codes "which") rows ≡ true) × (is_given (codes "number") rows ≡ true)
    × (is_given (codes "out") rows ≡ true)

-- the words give a depth without a limit
abbrev pub LacksLimit : List Row → Type 0
LacksLimit rows = (is_given (codes "depth") rows ≡ true) × (is_given (codes "limit") rows ≡ false)

-- which options don't go together: at all subcommands but `audit`, neither `--people` nor both of `--geo` and
-- `--segment`, or `--people` beside one of them; at all subcommands, a `--tolerance` whose text writes none, or
-- `--tolerance` beside `--part` or `--of`; at `list`, one of `--number` and `--out` alone, or `--which` beside
-- both; at `share` and `piece`, `--depth` without `--limit`
abbrev pub IsOptionsFault : Text × List Row → OptionsFault → Type 0
IsOptionsFault p CountyFiles = (p.0 ≢ codes "audit") × LacksCountyFiles p.1
IsOptionsFault p PeopleAndCensus = (p.0 ≢ codes "audit") × GivesPeopleAndCensus p.1
IsOptionsFault p NoTolerance = GivesNoTolerance p.1
IsOptionsFault p ToleranceAndPart = GivesToleranceAndPart p.1
IsOptionsFault p NumberOrOut = (p.0 ≡ codes "list") × AreUnpaired p.1
IsOptionsFault p WhichAndStored = (p.0 ≡ codes "list") × AskAndStore p.1
IsOptionsFault p Depth =
    ((p.0 ≡ codes "share") ⊎ (p.0 ≡ codes "piece")) × LacksLimit p.1

-- some options of a subcommand don't go together
abbrev pub HasOptionsFault : Text × List Row → Type 0
HasOptionsFault p = (fault : OptionsFault) × IsOptionsFault p fault

-- a subcommand with the values of its options means the command: the values are the command's, and the options go
-- together
pub record SaysCommand (p : Text × List Row) (command : CommandWords) : Type 0 where
  pub options : SaysOptions p command
  pub together : HasOptionsFault p → ⊥

-- the words give options that don't go together
abbrev pub HaveOptionsFault : List Text → Type 0
HaveOptionsFault words = IsSomeAnd (subcommand_in words) HasOptionsFault

-- the words mean the command
abbrev pub Means : List Text → CommandWords → Type 0
Means words command = IsSomeAnd (subcommand_in words) (λ p. SaysCommand p command)

-- an error of help ends in help, one of the version in the version, one of memory in memory and any other in usage;
-- since its text takes memory, any may end in memory
abbrev pub EndsAs : ErrorKind → WordsEnd → Type 0
EndsAs kind (Help text) = kind ≡ DisplayHelp
EndsAs kind (Version text) = kind ≡ DisplayVersion
EndsAs kind (Usage text) = (kind ≢ DisplayHelp) × (kind ≢ DisplayVersion) × (kind ≢ OutOfMemory)
EndsAs kind Memory = ⊤

-- words with these faults end in help where help is asked for before anything is wrong, in the version where that is,
-- and else in usage; any words may end in memory
abbrev pub EndsBy : Kinds → WordsEnd → Type 0
EndsBy faults (Help text) = faults ≡ DisplayHelp ∷ []
EndsBy faults (Version text) = faults ≡ DisplayVersion ∷ []
EndsBy faults (Usage text) = (faults ≢ []) × (faults ≢ DisplayHelp ∷ []) × (faults ≢ DisplayVersion ∷ [])
EndsBy faults Memory = ⊤

-- the end is usage
abbrev pub IsUsage : WordsEnd → Type 0
IsUsage (Usage text) = ⊤
IsUsage _ = ⊥

-- words without a command end as their faults say; words that have none of clap's faults, but give options that don't
-- go together, end in usage
abbrev pub EndsFor : List Text → WordsEnd → Type 0
EndsFor words end = EndsBy (faults_of words) end ⊎ ((faults_of words ≡ []) × HaveOptionsFault words × IsUsage end)

-- words that clap takes end in memory alone, but for words that give options that don't go together
abbrev pub EndsTaken : List Text → WordsEnd → Type 0
EndsTaken words end = (end ≡ Memory) ⊎ (HaveOptionsFault words × IsUsage end)

-- help or the version was asked for
abbrev pub IsHelpOrVersion : WordsEnd → Type 0
IsHelpOrVersion (Help text) = ⊤
IsHelpOrVersion (Version text) = ⊤
IsHelpOrVersion (Usage text) = ⊥
IsHelpOrVersion Memory = ⊥

-- the exit status of the program
abbrev pub status_of : WordsEnd → ℕ
status_of (Help text) = 0
status_of (Version text) = 0
status_of (Usage text) = 2
status_of Memory = 5
