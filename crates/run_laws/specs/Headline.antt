-- What a run says of the machine's files, for each command and each exit status. `files` are the bytes under each name
-- that the run read, and `stored` are the files that it stored.
use Rattle.std.specs.Prelude.{◌≡◌, ◌≢◌, ◌⊎◌, ◌++◌, ⊤, ℕ, true, List, [], ◌∷◌, length, Contains}
use Rattle.std.specs.Prelude.{Option, Some, None, IfSome, codes}
use Rattle.std.specs.List.{flat_map}
use Rattle.std.specs.Borrow.{Bor}
use Rattle.county_codes.specs.declared.county.County.{County}
use Rattle.county_codes.specs.declared.group.Grouping as held
use Rattle.county_problem.specs.ProblemValue.{ProblemValue, problem_of}
use Rattle.county_problem.specs.Building.{IsProblemOf, problem_fault}
use Rattle.county_problem.specs.Judging.{IsFault}
use Rattle.county_problem.specs.declared.grouping_fault.GroupingFault.{GroupingFault}
use Rattle.grouping_laws.specs.Grouping.{Grouping, Lawful, IsBest, IsImpossible, IsGreater, counts, sets_of}
use Rattle.grouping_report.specs.GroupingText.{grouping_text}
use Rattle.grouping_report.specs.declared.outcome.Outcome.TheVariants as outcome
use Rattle.pl94_counties.specs.CountyNames.{CountyName}
use Rattle.pl94_counties.specs.declared.blocks.Block.{Block}
use Rattle.baf_auditor.specs.declared.assignments.Assignment.{Assignment}
use Rattle.baf_auditor.specs.declared.finding.Finding.{Finding}
use Rattle.baf_auditor.specs.Findings.{AreFindings}
use Rattle.certificate_checker.specs.Answers.{IsCheckAnswer}
use Rattle.certificate_checker.specs.declared.verdict.Verdict.TheVariants as verdict
use Rattle.state_judge.specs.declared.fault.CheckFault.{CheckFault}
use Rattle.list_laws.specs.AllBest.{AreAllBest}
use Rattle.list_groupings.specs.ListOrder.{AreInOrder}
use Rattle.list_groupings.specs.Answers.{IsListing}
use Rattle.list_groupings.specs.declared.gap.Gap.{Gap}
use Rattle.list_groupings.specs.declared.listing.Listing.TheVariants as listing
use Rattle.certificate_data.specs.Round.{Round}
use Rattle.board_laws.specs.Content.{Content, Event, Reply}
use Rattle.board_report.specs.ReplyLines.{reply_line}
use Rattle.board_report.specs.EventSpelling.{text_of_events, EventsAreSpelled}
use Rattle.worker_texts.specs.Coming as texts
use Rattle.share_board.specs.OpenPieces.{AreOpen}
use Rattle.share_board.specs.Rounds.{IsBoardFault}
use Rattle.share_board.specs.declared.fault.BoardFault.TheVariants as fault
use Rattle.board_report.specs.BoardOutcome.{board_end_lines}
use Rattle.board_report.specs.Rounds.{IsFirstRound}
use Rattle.board_report.specs.Taking.{EventsAreTaken}
use Rattle.board_report.specs.PieceAnswers.{IsAnswerAt, piece_budget}
use Rattle.partial_trees.specs.declared.tree.PartialTree.{PartialTree}
use Rattle.partial_trees.specs.PartialValue.{partial_of}
use Rattle.board_report.specs.Resuming.{resuming_events}
use Rattle.branch_bound.specs.Resuming.{IsBestPart}
use Rattle.branch_bound.specs.declared.piece_answer.PieceAnswer.{PieceAnswer}
use Rattle.cli_words.specs.Words.{Means, takes_words, standard_input}
use Rattle.cli_words.specs.declared.words.CommonWords.{CommonWords}
use Rattle.cli_words.specs.declared.words.ProblemWords.{ProblemWords}
use Rattle.cli_words.specs.declared.words.BoardWords.{BoardWords}
use Rattle.cli_words.specs.declared.words.StoredWords.{StoredWords}
use Rattle.cli_words.specs.declared.words.JudgeWords.{JudgeWords}
use Rattle.cli_words.specs.declared.words.SolveWords.{SolveWords}
use Rattle.cli_words.specs.declared.words.CertificateWords.{CertificateWords}
use Rattle.cli_words.specs.declared.words.CheckWords.{CheckWords}
use Rattle.cli_words.specs.declared.words.AuditWords.{AuditWords}
use Rattle.cli_words.specs.declared.words.ListWords.{ListWords}
use Rattle.cli_words.specs.declared.words.ShareWords.{ShareWords}
use Rattle.cli_words.specs.declared.words.PieceWords.{PieceWords}
use Rattle.cli_words.specs.declared.words.WorkerWords.{WorkerWords}
use Rattle.cli_words.specs.declared.words.CommandWords.{CommandWords}
use Rattle.cli_words.specs.declared.words.CommandWords.TheVariants.{Size, Judge, Solve, Check, Audit, List as ListAll}
use Rattle.cli_words.specs.declared.words.CommandWords.TheVariants.{Share, Piece, Worker}
use Rattle.cli_file_stores.specs.Files.{NamedFile, Files}
use Rattle.cli_file_stores.specs.History.{FileStoreEvent, History}
use Rattle.cli_file_stores.specs.History.FileStoreEvent.{Stored}
use Rattle.cli_answers.specs.Answer.{Answered, success, budget_answer}
use Rattle.cli_answers.specs.CheckLines.{no_answer}
use Rattle.cli_answers.specs.Refusals.{verdict_answer}
use Rattle.run_laws.specs.Forms.{has_names, line_in, outcome_in, size_in}
use Rattle.run_laws.specs.FilesProblem.{AreNamesIf, AreCountiesOfFiles, IsProblemOfFiles, IsTableOfFiles, AreBlocksOfFiles}
use Rattle.run_laws.specs.FilesProblem.{IsGroupingOfFile, IsGroupingIfNamed, IsLongTableOfFiles, AreAssignmentsOfFile}
use Rattle.run_laws.specs.Storing.{IsStoredAs}
use Rattle.run_laws.specs.JudgeWithCertificate.{lawful_answer, best_answer, greater_answer}
use Rattle.run_laws.specs.JudgeSteps.{IsDistrictsTable, findings_answer}
use Rattle.run_laws.specs.ListSteps.{listing_answer, open_answer, grouping_numbered}
use Rattle.run_laws.specs.BoardSteps.{format_of, depth_of, limit_of_words}
use Rattle.run_laws.specs.PieceSteps.{piece_said}
use Rattle.run_laws.specs.WorkerSteps.{HasProved}
use Rattle.run_laws.specs.Recording.{is_recorded}
use Rattle.run_laws.specs.Loads.{AnsweredBy}
use Rattle.run_laws.specs.Run.{CommandRun}

-- ---- solve

-- `solve` ends with status 0: the grouping that it printed is lawful for the problem of the files, and no lawful
-- grouping has greater counts. Where they are named, its lines and its table were stored.
pub record SolveTellsBest (files : Files) (words : SolveWords) (stored : List NamedFile) (a : Answered) : Type 0 where
  pub v : ProblemValue
  pub problem : IsProblemOfFiles files words.problem v
  pub grouping : held.Grouping
  pub best : IsBest (problem_of v) grouping.groups.items
  pub named : Option (List CountyName)
  pub named_are : AreNamesIf (has_names words.problem.common.form) files words.problem.common named
  pub answer : a ≡ success (outcome_in words.problem.common.form v named (outcome.Best grouping))
  pub lines : IsStoredAs words.out (λ text. text ≡ grouping_text grouping.groups.items) stored
  pub table : IsStoredAs words.table (IsTableOfFiles files words.problem v grouping.groups.items) stored

-- `solve`, `check` or `list` ends with status 1: no grouping of the problem of the files is lawful, and this is
-- printed.
pub record TellsNone (files : Files) (words : ProblemWords) (a : Answered) : Type 0 where
  pub v : ProblemValue
  pub problem : IsProblemOfFiles files words v
  pub none : IsImpossible (problem_of v)
  pub named : Option (List CountyName)
  pub named_are : AreNamesIf (has_names words.common.form) files words.common named
  pub answer : a ≡ record { text = outcome_in words.common.form v named outcome.Impossible; status = 1 }

-- What is known of a grouping that `solve` found before its steps ran out: it is lawful, and a part that is given is
-- one of the proof that it is best. None was found only if no step was allowed.
abbrev pub IsFound : ProblemValue → ℕ → Option held.Grouping → Option PartialTree → Type 0
IsFound v steps None part = steps ≡ 0
IsFound v steps (Some g) part =
    Lawful (problem_of v) g.groups.items × IfSome part (λ t. IsBestPart (problem_of v) g.groups.items (partial_of t))

-- What was stored of such a grouping, where it is named: its lines, its table, and the events by which a board of it
-- goes on.
abbrev pub AreFoundStored : Files → SolveWords → ProblemValue → Option held.Grouping → Option PartialTree
    → List NamedFile → Type 0
AreFoundStored files words v None part stored = ⊤
AreFoundStored files words v (Some g) part stored =
    IsStoredAs words.out (λ text. text ≡ grouping_text g.groups.items) stored
    × IsStoredAs words.table (IsTableOfFiles files words.problem v g.groups.items) stored
    × IsStoredAs words.events (λ text. text ≡ text_of_events (resuming_events part)) stored

-- `solve` ends with status 3: it took all steps that it was allowed. The grouping that it printed, if there is one, is
-- lawful. What was stored is of it, and of what was proved of it being best.
pub record SolveTellsOpen (files : Files) (words : SolveWords) (stored : List NamedFile) (a : Answered) : Type 0 where
  pub v : ProblemValue
  pub problem : IsProblemOfFiles files words.problem v
  pub found : Option held.Grouping
  pub part : Option PartialTree
  pub is : IsFound v words.steps found part
  pub named : Option (List CountyName)
  pub named_are : AreNamesIf (has_names words.problem.common.form) files words.problem.common named
  pub answer : a ≡ record {
    text = outcome_in words.problem.common.form v named (outcome.Open found words.steps);
    status = 3;
  }
  pub stored_are : AreFoundStored files words v found part stored

-- ---- check

-- `check` ends with status 0: the grouping that it printed is lawful for the problem of the files, and no lawful
-- grouping has greater counts. Where it is named, its table was stored.
pub record CheckTellsBest (files : Files) (words : CheckWords) (stored : List NamedFile) (a : Answered) : Type 0 where
  pub v : ProblemValue
  pub problem : IsProblemOfFiles files words.check.problem v
  pub grouping : held.Grouping
  pub best : IsBest (problem_of v) grouping.groups.items
  pub named : Option (List CountyName)
  pub named_are : AreNamesIf (has_names words.check.problem.common.form) files words.check.problem.common named
  pub answer : a ≡ success (outcome_in words.check.problem.common.form v named (outcome.Best grouping))
  pub table : IsStoredAs words.table (IsTableOfFiles files words.check.problem v grouping.groups.items) stored

-- `check` or `list` ends with status 1: this is the first fault of the certificate's file, and its line.
pub record TellsFault (files : Files) (words : CertificateWords) (a : Answered) : Type 0 where
  pub v : ProblemValue
  pub problem : IsProblemOfFiles files words.problem v
  pub certificate : List ℕ
  pub certificate_is : files words.certificate.now ≡ Some certificate
  pub fault : CheckFault
  pub line : ℕ
  pub first : IsCheckAnswer (problem_of v) certificate words.budget (verdict.No fault line)
  pub answer : a ≡ line_in words.problem.common.form (no_answer fault line)

-- `check` or `list` ends with status 3: the budget is below the cost of the certificate.
pub record TellsBudget (files : Files) (words : CertificateWords) (a : Answered) : Type 0 where
  pub v : ProblemValue
  pub problem : IsProblemOfFiles files words.problem v
  pub certificate : List ℕ
  pub certificate_is : files words.certificate.now ≡ Some certificate
  pub above : IsCheckAnswer (problem_of v) certificate words.budget verdict.Budget
  pub answer : a ≡ line_in words.problem.common.form budget_answer

-- ---- judge

-- `judge` ends with status 0: the grouping of its file is lawful for the problem of the files. If the report calls it
-- best, no lawful grouping has greater counts. Where it is named, its table was stored.
pub record JudgeTellsLawful (files : Files) (words : JudgeWords) (stored : List NamedFile) (a : Answered) : Type 0 where
  pub v : ProblemValue
  pub problem : IsProblemOfFiles files words.problem v
  pub grouping : Grouping
  pub grouping_is : IsGroupingOfFile files words.grouping.now grouping
  pub lawful : Lawful (problem_of v) grouping
  pub named : Option (List CountyName)
  pub named_are : AreNamesIf (has_names words.problem.common.form) files words.problem.common named
  pub answer : (a ≡ lawful_answer words.problem.common.form v named grouping)
      ⊎ ((a ≡ best_answer words.problem.common.form v named grouping) × IsBest (problem_of v) grouping)
  pub table : IsStoredAs words.table (IsTableOfFiles files words.problem v grouping) stored

-- `judge` ends with status 1, since another grouping has greater counts: the grouping of its file is lawful for the
-- problem of the files, but the target of the certificate is best, and has greater counts. Where it is named, the table
-- of the judged grouping was stored.
pub record JudgeTellsGreater (files : Files) (words : JudgeWords) (stored : List NamedFile) (a : Answered) : Type 0 where
  pub v : ProblemValue
  pub problem : IsProblemOfFiles files words.problem v
  pub grouping : Grouping
  pub grouping_is : IsGroupingOfFile files words.grouping.now grouping
  pub lawful : Lawful (problem_of v) grouping
  pub target : Grouping
  pub best : IsBest (problem_of v) target
  pub greater : IsGreater (counts (sets_of target)) (counts (sets_of grouping))
  pub named : Option (List CountyName)
  pub named_are : AreNamesIf (has_names words.problem.common.form) files words.problem.common named
  pub answer : a ≡ greater_answer words.problem.common.form v named grouping target
  pub table : IsStoredAs words.table (IsTableOfFiles files words.problem v grouping) stored

-- `judge` ends with status 1, since the grouping of its file isn't lawful: this is its first fault.
pub record JudgeTellsFault (files : Files) (words : JudgeWords) (a : Answered) : Type 0 where
  pub v : ProblemValue
  pub problem : IsProblemOfFiles files words.problem v
  pub grouping : Grouping
  pub grouping_is : IsGroupingOfFile files words.grouping.now grouping
  pub fault : GroupingFault
  pub first : IsFault (problem_of v) grouping fault
  pub answer : a ≡ line_in words.problem.common.form (verdict_answer fault)

-- ---- list

-- the lines of the grouping of a number were stored, if the words give one
abbrev pub IsNumberedStored : List Grouping → Option StoredWords → List NamedFile → Type 0
IsNumberedStored groupings None stored = ⊤
IsNumberedStored groupings (Some words) stored =
    (g : Grouping) × (grouping_numbered groupings words.number ≡ Some g)
    × IsStoredAs (Some words.out) (λ text. text ≡ grouping_text g) stored

-- `list` ends with status 0, or with 1 since a grouping isn't listed: the text lists all best groupings of the problem
-- of the files, in order. If the words name a grouping, its number stands behind the list, or that it isn't listed.
-- Where they are named, the lines of the grouping of a number and the table of all groupings were stored.
pub record ListTellsAll (files : Files) (words : ListWords) (stored : List NamedFile) (a : Answered) : Type 0 where
  pub v : ProblemValue
  pub problem : IsProblemOfFiles files words.check.problem v
  pub groupings : List Grouping
  pub all : AreAllBest (problem_of v) groupings
  pub in_order : AreInOrder groupings
  pub which : Option Grouping
  pub which_is : IsGroupingIfNamed files words.which which
  pub named : Option (List CountyName)
  pub named_are : AreNamesIf (has_names words.check.problem.common.form) files words.check.problem.common named
  pub answer : a ≡ listing_answer words.check.problem.common.form v named groupings which
  pub lines : IsNumberedStored groupings words.stored stored
  pub table : IsStoredAs words.groupings (IsLongTableOfFiles files words.check.problem v groupings) stored

-- `list` ends with status 3: the certificate shows that its target is best, but not which other groupings are, and this
-- is the first leaf at which it doesn't.
pub record ListTellsOpen (files : Files) (words : ListWords) (a : Answered) : Type 0 where
  pub v : ProblemValue
  pub problem : IsProblemOfFiles files words.check.problem v
  pub certificate : List ℕ
  pub certificate_is : files words.check.certificate.now ≡ Some certificate
  pub gap : Gap
  pub line : ℕ
  pub first : IsListing (problem_of v) certificate words.check.budget (listing.Open gap line)
  pub answer : a ≡ line_in words.check.problem.common.form (open_answer gap line)

-- ---- audit

-- `audit` ends with status 0 or 1: the text has all findings of the assignments of its file against the grouping of its
-- file, and no other; the status says whether there are any. Where it is named, the table of the districts was stored.
pub record AuditTells (files : Files) (words : AuditWords) (stored : List NamedFile) (a : Answered) : Type 0 where
  pub v : ProblemValue
  pub problem : IsProblemOfFiles files words.problem v
  pub grouping : Grouping
  pub grouping_is : IsGroupingOfFile files words.grouping.now grouping
  pub blocks : List Block
  pub blocks_are : AreBlocksOfFiles files words.problem.common.state words.census blocks
  pub assignments : List Assignment
  pub assignments_are : AreAssignmentsOfFile files words.assignments.now assignments
  pub findings : List Finding
  pub findings_are : AreFindings v grouping blocks assignments findings
  pub answer : a ≡ findings_answer words.problem.common.form findings
  pub table : IsStoredAs words.districts (IsDistrictsTable v grouping blocks assignments) stored

-- ---- size

-- `size` ends with status 0: the text is the table of sizes of the problem that the counties of the files make, where
-- no county is withdrawn and no pair is adjacent.
pub record SizeTells (files : Files) (words : CommonWords) (a : Answered) : Type 0 where
  pub counties : List County
  pub counties_are : AreCountiesOfFiles files words counties
  pub v : ProblemValue
  pub faultless : problem_fault counties [] [] words.chamber words.tolerance ≡ None
  pub problem : IsProblemOf counties [] [] words.chamber words.tolerance v
  pub named : Option (List CountyName)
  pub named_are : AreNamesIf (has_names words.form) files words named
  pub answer : a ≡ success (size_in words.form v named)

-- ---- share and piece

-- the round with which a board begins: its target is the grouping of a file
pub record IsFirstRoundOfFiles (files : Files) (words : BoardWords) (v : ProblemValue) (target : Grouping)
    (round : Round) : Type 0 where
  pub target_is : IsGroupingOfFile files words.grouping.now target
  pub round_is : IsFirstRound (problem_of v) target (limit_of_words target words.round) (format_of words.round) round

-- the events of a file; none, if no file is named
abbrev pub AreEventsOfFile : Files → BoardWords → ProblemValue → Option (Bor (List ℕ)) → List Event → Type 0
AreEventsOfFile files words v None events = events ≡ []
AreEventsOfFile files words v (Some name) events =
    (text : List ℕ) × (files name.now ≡ Some text)
    × EventsAreSpelled (format_of words.round) (length v.counties) text events

-- A board for the problem of the files took the events of a file, one after the other, with these replies. This is then
-- its content.
pub record TookEvents (files : Files) (words : BoardWords) (name : Option (Bor (List ℕ))) (budget : ℕ)
    (v : ProblemValue) (replies : List Reply) (last : Content) : Type 0 where
  pub problem : IsProblemOfFiles files words.problem v
  pub target : Grouping
  pub round : Round
  pub first : IsFirstRoundOfFiles files words v target round
  pub events : List Event
  pub events_are : AreEventsOfFile files words v name events
  pub taken : EventsAreTaken (problem_of v) (depth_of words.round) budget round events replies last

-- `share` ends with status 0: each event of its file has its reply, and no piece waits. The board's target is then
-- lawful for the problem of the files, and no lawful grouping has greater counts.
pub record ShareTellsBest (files : Files) (words : ShareWords) (a : Answered) : Type 0 where
  pub v : ProblemValue
  pub replies : List Reply
  pub last : Content
  pub board : TookEvents files words.board (Some words.events) words.budget v replies last
  pub target : Grouping
  pub target_is : last.round.target ≡ Some target
  pub best : IsBest (problem_of v) target
  pub answer : a ≡ success (flat_map reply_line replies ++ codes "joined\n")

-- `share` ends with status 3: each event of its file has its reply, and these pieces wait. Nothing was stored.
pub record ShareTellsOpen (files : Files) (words : ShareWords) (stored : List NamedFile) (a : Answered) : Type 0 where
  pub v : ProblemValue
  pub replies : List Reply
  pub last : Content
  pub board : TookEvents files words.board (Some words.events) words.budget v replies last
  pub waiting : List ℕ
  pub waiting_are : AreOpen last.skeleton waiting
  pub some : waiting ≢ []
  pub answer : a ≡ record { text = flat_map reply_line replies ++ board_end_lines last waiting; status = 3 }
  pub none_stored : stored ≡ []

-- `share` or `piece` ends with status 3: the budget is below the cost of the opening of the board.
pub record BoardTellsBudget (files : Files) (words : BoardWords) (budget : ℕ) (a : Answered) : Type 0 where
  pub v : ProblemValue
  pub problem : IsProblemOfFiles files words.problem v
  pub target : Grouping
  pub round : Round
  pub first : IsFirstRoundOfFiles files words v target round
  pub below : IsBoardFault (problem_of v) (depth_of words.round) budget target round fault.Budget
  pub answer : a ≡ budget_answer

-- `piece` ends with status 0 or 3: the text is what the search answers of the piece of the number, which waits on the
-- board that took the events of the file. With status 3 the steps ran out.
pub record PieceTells (files : Files) (words : PieceWords) (a : Answered) : Type 0 where
  pub v : ProblemValue
  pub replies : List Reply
  pub last : Content
  pub board : TookEvents files words.board words.events piece_budget v replies last
  pub piece_answer : PieceAnswer
  pub piece_answer_is : IsAnswerAt (problem_of v) last words.number (Some piece_answer)
  pub answer : a ≡ piece_said words.round words.number (Some piece_answer)

-- ---- worker

-- `worker` ends with status 0: standard input is the rounds and the open pieces that it read, and the text has the
-- answer to each piece, with a line `end` behind it.
pub record WorkerTells (files : Files) (words : WorkerWords) (a : Answered) : Type 0 where
  pub v : ProblemValue
  pub problem : IsProblemOfFiles files words.problem v
  pub bytes : List ℕ
  pub input : files standard_input ≡ Some bytes
  pub text : List ℕ
  pub left : texts.Held
  pub none_left : left.bytes ≡ []
  pub proved : HasProved v bytes text left
  pub answer : a ≡ success text

-- ---- all commands

-- what is told with status 0, with status 1, and with status 3
abbrev pub ByStatus : ℕ → Type 0 → Type 0 → Type 0 → Type 0
ByStatus status Yes No Open = ((status ≡ 0) × Yes) ⊎ (((status ≡ 1) × No) ⊎ ((status ≡ 3) × Open))

-- what a run of a command tells
abbrev pub Tells : Files → CommandWords → List NamedFile → Answered → Type 0
Tells files (Size words) stored a = ByStatus a.status (SizeTells files words a) ⊥ ⊥
Tells files (Judge words) stored a =
    ByStatus a.status
    (JudgeTellsLawful files words stored a)
    (JudgeTellsGreater files words stored a ⊎ JudgeTellsFault files words a)
    ⊥
Tells files (Solve words) stored a =
    ByStatus a.status
    (SolveTellsBest files words stored a)
    (TellsNone files words.problem a)
    (SolveTellsOpen files words stored a)
Tells files (Check words) stored a =
    ByStatus a.status
    (CheckTellsBest files words stored a)
    (TellsNone files words.check.problem a ⊎ TellsFault files words.check a)
    (TellsBudget files words.check a)
Tells files (Audit words) stored a =
    ByStatus a.status (AuditTells files words stored a) (AuditTells files words stored a) ⊥
Tells files (ListAll words) stored a =
    ByStatus a.status
    (ListTellsAll files words stored a)
    (ListTellsAll files words stored a ⊎ (TellsNone files words.check.problem a ⊎ TellsFault files words.check a))
    (ListTellsOpen files words a ⊎ TellsBudget files words.check a)
Tells files (Share words) stored a =
    ByStatus a.status
    (ShareTellsBest files words a)
    ⊥
    (ShareTellsOpen files words stored a ⊎ BoardTellsBudget files words.board words.budget a)
Tells files (Piece words) stored a =
    ByStatus a.status
    (PieceTells files words a)
    ⊥
    (PieceTells files words a ⊎ BoardTellsBudget files words.board piece_budget a)
Tells files (Worker words) stored a = ByStatus a.status (WorkerTells files words a) ⊥ ⊥

-- what a run of a command tells of files that it was given
abbrev pub RunsTell : Type 0
RunsTell =
    (files : Files) (command : CommandWords) (before after : History) (stored : List NamedFile) (a : Answered)
    → CommandRun (Some files) command before after stored a → is_recorded a.status ≡ true
    → Tells files command stored a

-- between two histories a file was handed over to be stored, and it was taken
abbrev pub IsStoreTaken : History → History → List ℕ → List ℕ → Type 0
IsStoreTaken before after name bytes =
    (earlier : List FileStoreEvent) × (later : List FileStoreEvent)
    × (after.events ≡ before.events ++ (earlier ++ (Stored name bytes true ∷ later)))

-- each of these files was taken
abbrev pub AreTaken : History → History → List NamedFile → Type 0
AreTaken before after stored = (f : NamedFile) → Contains stored f → IsStoreTaken before after f.name f.bytes

-- The words mean a command, and the run stored files. Whatever bytes each name has by which the run's readings went as
-- they did, the run tells of these bytes what its command promises.
pub record TellsOfFiles (words : List (List ℕ)) (before after : History) (a : Answered) : Type 0 where
  pub command : CommandWords
  pub meant : Means words command
  pub stored : List NamedFile
  pub taken : AreTaken before after stored
  pub told : (files : Files) → AnsweredBy files before after → Tells files command stored a

-- If clap takes the words, an answer with status 0, 1 or 3 tells of the machine's files what its command promises.
abbrev pub RunTells : List (List ℕ) → History → History → Answered → Type 0
RunTells words before after a =
    takes_words words ≡ true → is_recorded a.status ≡ true → TellsOfFiles words before after a
