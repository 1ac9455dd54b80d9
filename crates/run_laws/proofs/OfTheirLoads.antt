-- Runs over files, whether a file store tells them or not, are runs over any files by which their loads and readers
-- answered.
use Rattle.std.proofs.Common.{◌≡◌, ◌⊎◌, ℕ, Bool, true, false, length, List, [], ◌∷◌, ◌++◌, Contains, Option, Some, None, inl, inr, sym, ap, subst, ◌∙◌, append_assoc}
use Rattle.std.specs.Borrow.{Bor}
use Rattle.std.specs.Prelude.{Ok, Err, is_some}
use Rattle.pl94_counties.proofs.TraceLemmas.{contains_nil, contains_cases}
use Rattle.pl94_counties.specs.Counties.{county_list, block_list}
use Rattle.baf_auditor.specs.Assignments.{assignment_list}
use Rattle.adjacency_reader.specs.Pairs.{IsPairsAnswer}
use Rattle.adjacency_reader.specs.Links.{link_list}
use Rattle.adjacency_reader.specs.WithdrawnSets.{withdrawn_list}
use Rattle.adjacency_reader.specs.Adjacency.{AreLinked}
use Rattle.grouping_reader.specs.GroupingLines.{grouping_list}
use Rattle.cli_words.specs.declared.words.CommonWords.{CommonWords}
use Rattle.cli_words.specs.declared.words.CensusWords.{CensusWords}
use Rattle.cli_words.specs.declared.words.CountyWords.{CountyWords}
use Rattle.cli_words.specs.declared.words.CountyWords.TheVariants.{Census, People}
use Rattle.cli_words.specs.declared.words.ProblemWords.{ProblemWords}
use Rattle.cli_words.specs.declared.words.JudgeWords.{JudgeWords}
use Rattle.cli_words.specs.declared.words.AuditWords.{AuditWords}
use Rattle.cli_words.specs.declared.words.SolveWords.{SolveWords}
use Rattle.cli_words.specs.declared.words.CheckWords.{CheckWords}
use Rattle.cli_words.specs.declared.words.ListWords.{ListWords}
use Rattle.cli_words.specs.declared.words.ShareWords.{ShareWords}
use Rattle.cli_words.specs.declared.words.PieceWords.{PieceWords}
use Rattle.cli_words.specs.declared.words.WorkerWords.{WorkerWords}
use Rattle.cli_words.specs.declared.words.CommandWords.{CommandWords}
use Rattle.cli_words.specs.declared.words.CommandWords.TheVariants.{Size, Judge, Solve, Check, Audit, List as ListAll, Share, Piece, Worker}
use Rattle.cli_file_stores.specs.Files.{NamedFile, Files}
use Rattle.cli_file_stores.specs.History.{FileStoreEvent, History}
use Rattle.cli_file_stores.specs.History.FileStoreEvent.{Stored}
use Rattle.cli_answers.specs.declared.refusal.InputFile.TheVariants as input
use Rattle.cli_answers.specs.Answer.{Answered, success}
use Rattle.cli_answers.specs.Refusals.{pl94_answer, named_answer, people_answer, code_file_answer, problem_answer, assignment_answer, verdict_answer, events_answer, board_answer}
use Rattle.run_laws.specs.Forms.{has_names, line_in, reads_names, size_in}
use Rattle.run_laws.specs.ProblemSteps.{counties_by, counties_steps, pairs_of, links_of, withdrawn_of, adjacency_of, IsBuilt, problem_over, problem_steps, grouping_of}
use Rattle.run_laws.specs.TableSteps.{Reported, untabled, tabled_by, named_counties_by, named_counties_of, tabled_problem_in}
use Rattle.county_codes.specs.declared.county.County.{County}
use Rattle.grouping_table.specs.Table.{unnamed_counties as without_names}
use Rattle.pl94_counties.specs.CountyNames.{CountyName, named_list}
use Rattle.people_table.specs.Listed.{people_list, named_people_list}
use Rattle.run_laws.specs.PlanSteps.{blocks_of, plan_assignments}
use Rattle.run_laws.specs.JudgeWithCertificate.{certificate_text_of}
use Rattle.run_laws.specs.JudgeSteps.{sizes_of, sizes_by, size_steps, IsJudgeReport, judge_steps, Audited, IsAudited, audit_steps}
use Rattle.run_laws.specs.SolveSteps.{IsSolved, solve_steps, files_to_store}
use Rattle.run_laws.specs.CheckSteps.{IsChecked, check_steps}
use Rattle.run_laws.specs.ListSteps.{IsListAnswer, which_of, asked_by, list_steps, listed_files}
use Rattle.county_problem.specs.ProblemValue.{codes_of, problem_of}
use Rattle.certificate_data.specs.declared.format.Format as rounds
use Rattle.board_report.specs.BoardOutcome.{IsShared}
use Rattle.board_report.specs.PieceAnswers.{IsAnswered, piece_budget}
use Rattle.run_laws.specs.BoardSteps.{format_of, depth_of, AreEvents, events_of, named_events_of, AnswersOnBoard}
use Rattle.run_laws.specs.ShareSteps.{share_answer, share_steps, joined_file}
use Rattle.run_laws.specs.PieceSteps.{piece_said, piece_steps}
use Rattle.run_laws.specs.Spoken.{behind}
use Rattle.cli_words.specs.Words.{standard_input}
use Rattle.run_laws.specs.WorkerSteps.{IsWorkerRun, worker_steps, WorkerEnds}
use Rattle.cli_record.specs.RecordFiles.{record_name_of}
use Rattle.run_laws.specs.Steps.{Steps, StepsEndIn}
use Rattle.run_laws.specs.Reading.{OfTexts}
use Rattle.run_laws.specs.Storing.{EndsStoring, named_file, said_after, store_steps}
use Rattle.run_laws.specs.Recording.{RecordEnds}
use Rattle.run_laws.specs.Run.{CommandEnds, EndsShown, CommandRun, IsRunAnswer, RunsAsAsked}
use Rattle.run_laws.specs.Loads.{AnsweredBy, RunsAreOfTheirLoads}
use Rattle.run_laws.specs.Headline.{IsStoreTaken}
use Rattle.run_laws.proofs.StoreLemmas.{StoresThenAnswers}
use Rattle.run_laws.proofs.Lifting.{Extends, extends_same, extends_twice, answered_split, Lifts, lifts_load, lifts_read_one, lifts_given_of, lifts_given_of_both, lifts_call, lifts_value, lifts_bind, lifts_optional, ends_lift}

-- files that are stored add events
stores_extend : (list : List NamedFile) (before after : History) (stored : List NamedFile) (refusal : Option Answered) → store_steps list before after stored refusal → Extends before after
stores_extend [] before after stored refusal h = extends_same before after h.0
stores_extend (f ∷ fs) before after stored refusal (inl h) = (_, h.logged.1)
stores_extend (f ∷ fs) before after stored refusal (inr h) =
    let more = stores_extend fs h.0 after h.1 refusal h.4 in
    (_, extends_twice before h.0 after (_, h.2.1) more)

-- a record that is stored adds its event
pub record_extends : (words : List (List ℕ)) (command : CommandWords) (name : List ℕ) (before between after : History) (last : List NamedFile) (written : List ℕ) (said a : Answered)
    → RecordEnds words command name before between after last written said a → Extends between after
record_extends words command name before between after last written said a (inl h) = extends_same between after h.1.still
record_extends words command name before between after last written said a (inr (is, inl more)) = extends_same between after more.still
record_extends words command name before between after last written said a (inr (is, inr s)) = stores_extend (record { name = name; bytes = s.text } ∷ []) between after last s.refusal s.steps

module _ (given : Option Files) (files : Files) where
  counties_by_lift : (state : ℕ) (words : CountyWords) → Lifts given files (counties_by given state words) (counties_by (Some files) state words)
  counties_by_lift state (Census census) = lifts_bind given files (lifts_given_of_both given files census.geo.now census.segment.now) (λ read.
      lifts_call given files pl94_answer (λ counties. OfTexts (λ g s. county_list g s state ≡ counties) read.0 read.1))
  counties_by_lift state (People table) = lifts_bind given files (lifts_load given files table.now) (λ text. lifts_call given files people_answer (λ counties. people_list text state ≡ counties))

  counties_lift : (words : CommonWords) → Lifts given files (counties_steps given words) (counties_steps (Some files) words)
  counties_lift words = counties_by_lift words.state words.counties

  pairs_lift : (listed name : List ℕ) → Lifts given files (pairs_of given listed name) (pairs_of (Some files) listed name)
  pairs_lift listed name = lifts_bind given files (lifts_load given files name) (λ text. lifts_call given files (code_file_answer input.Adjacency) (IsPairsAnswer text listed))

  links_lift : (name : Option (Bor (List ℕ))) → Lifts given files (links_of given name) (links_of (Some files) name)
  links_lift name = lifts_optional given files [] name (λ file. lifts_bind given files (lifts_load given files file) (λ text. lifts_call given files (code_file_answer input.Links) (λ links. link_list text ≡ links)))

  withdrawn_lift : (name : Option (Bor (List ℕ))) → Lifts given files (withdrawn_of given name) (withdrawn_of (Some files) name)
  withdrawn_lift name = lifts_optional given files [] name (λ file. lifts_bind given files (lifts_load given files file) (λ text. lifts_call given files (code_file_answer input.Withdrawn) (λ sets. withdrawn_list text ≡ sets)))

  adjacency_lift : (listed : List ℕ) (words : ProblemWords) → Lifts given files (adjacency_of given listed words) (adjacency_of (Some files) listed words)
  adjacency_lift listed words = lifts_bind given files (pairs_lift listed words.adjacency.now) (λ pairs. lifts_bind given files (links_lift words.links) (λ links. lifts_value given files (AreLinked pairs links)))

  over_lifts : (words : ProblemWords) (counties : List County) → Lifts given files (problem_over given words counties) (problem_over (Some files) words counties)
  over_lifts words counties =
      lifts_bind given files (adjacency_lift (codes_of counties) words) (λ pairs. lifts_bind given files (withdrawn_lift words.withdrawn) (λ withdrawn.
      lifts_call given files problem_answer (IsBuilt counties pairs withdrawn words.common.chamber words.common.tolerance)))

  problem_lifts : (words : ProblemWords) → Lifts given files (problem_steps given words) (problem_steps (Some files) words)
  problem_lifts words = lifts_bind given files (counties_lift words.common) (λ counties. over_lifts words counties)

  named_by_lift : (state : ℕ) (words : CountyWords) → Lifts given files (named_counties_by given state words) (named_counties_by (Some files) state words)
  named_by_lift state (Census census) = lifts_bind given files (lifts_given_of_both given files census.geo.now census.segment.now) (λ read.
      lifts_call given files named_answer (λ counties. OfTexts (λ g s. named_list g s state ≡ counties) read.0 read.1))
  named_by_lift state (People table) = lifts_bind given files (lifts_load given files table.now) (λ text. lifts_call given files people_answer (λ counties. named_people_list text state ≡ counties))

  named_lift : (words : CommonWords) → Lifts given files (named_counties_of given words) (named_counties_of (Some files) words)
  named_lift words = named_by_lift words.state words.counties

  tabled_lifts : (words : ProblemWords) (reads : Bool) → Lifts given files (tabled_problem_in given words reads) (tabled_problem_in (Some files) words reads)
  tabled_lifts words false = lifts_bind given files (problem_lifts words) (λ v. lifts_value given files (λ t. t ≡ untabled v))
  tabled_lifts words true =
      lifts_bind given files (named_lift words.common) (λ named. lifts_bind given files (over_lifts words (without_names named)) (λ v. lifts_value given files (λ t. t ≡ tabled_by named v)))

  grouping_lifts : (name : List ℕ) → Lifts given files (grouping_of given name) (grouping_of (Some files) name)
  grouping_lifts name = lifts_bind given files (lifts_load given files name) (λ text. lifts_call given files (code_file_answer input.Grouping) (λ grouping. grouping_list text ≡ grouping))

  blocks_lift : (census : CensusWords) (state : ℕ) → Lifts given files (blocks_of given census state) (blocks_of (Some files) census state)
  blocks_lift census state = lifts_bind given files (lifts_given_of_both given files census.geo.now census.segment.now) (λ read.
      lifts_call given files pl94_answer (λ blocks. OfTexts (λ g s. block_list g s state ≡ blocks) read.0 read.1))

  assignments_lift : (name : List ℕ) → Lifts given files (plan_assignments given name) (plan_assignments (Some files) name)
  assignments_lift name = lifts_bind given files (lifts_load given files name) (λ text. lifts_call given files assignment_answer (λ lines. assignment_list text ≡ lines))

  of_sizes_lift : (words : CommonWords) (named : Option (List CountyName)) (counties : List County)
      → Lifts given files (sizes_of words named counties) (sizes_of words named counties)
  of_sizes_lift words named counties =
      lifts_bind given files (lifts_call given files problem_answer (IsBuilt counties [] [] words.chamber words.tolerance))
      (λ v. lifts_value given files (λ a. a ≡ success (size_in words.form v named)))

  sizes_lift : (reads : Bool) (words : CommonWords) → Lifts given files (sizes_by reads given words) (sizes_by reads (Some files) words)
  sizes_lift false words = lifts_bind given files (counties_lift words) (of_sizes_lift words None)
  sizes_lift true words = lifts_bind given files (named_lift words) (λ named. of_sizes_lift words (Some named) (without_names named))

  size_lifts : (words : CommonWords) → Lifts given files (size_steps given words) (size_steps (Some files) words)
  size_lifts words = sizes_lift (has_names words.form) words

  certificate_lifts : (name : Option (Bor (List ℕ))) → Lifts given files (certificate_text_of given name) (certificate_text_of (Some files) name)
  certificate_lifts name = lifts_optional given files None name (λ file. lifts_bind given files (lifts_load given files file) (λ text. lifts_value given files (λ held. held ≡ Some text)))

  judge_lifts : (words : JudgeWords) → Lifts given files (judge_steps given words) (judge_steps (Some files) words)
  judge_lifts words =
      lifts_bind given files (tabled_lifts words.problem (reads_names words.problem.common words.table)) (λ t.
      lifts_bind given files (grouping_lifts words.grouping.now) (λ g. lifts_bind given files (certificate_lifts words.certificate) (λ text.
      lifts_call given files (λ fault. line_in words.problem.common.form (verdict_answer fault))
      (IsJudgeReport words.problem.common.form t g words.budget text))))

  audit_lifts : (words : AuditWords) → Lifts given files (audit_steps given words) (audit_steps (Some files) words)
  audit_lifts words =
      lifts_bind given files (problem_lifts words.problem) (λ v. lifts_bind given files (blocks_lift words.census words.problem.common.state) (λ blocks. lifts_bind given files (grouping_lifts words.grouping.now) (λ g.
      lifts_bind given files (assignments_lift words.assignments.now) (λ lines.
      lifts_value given files (IsAudited words.problem.common.form (is_some words.districts) v g blocks lines)))))

  check_lifts : (words : CheckWords) → Lifts given files (check_steps given words) (check_steps (Some files) words)
  check_lifts words =
      lifts_bind given files (tabled_lifts words.check.problem (reads_names words.check.problem.common words.table)) (λ t.
      lifts_bind given files (lifts_given_of given files words.check.certificate.now) (λ read.
      lifts_value given files (IsChecked words.check.problem.common.form t words.check.budget read)))

  solve_lifts : (words : SolveWords) → Lifts given files (solve_steps given words) (solve_steps (Some files) words)
  solve_lifts words =
      lifts_bind given files (tabled_lifts words.problem (reads_names words.problem.common words.table))
      (λ t. lifts_value given files (IsSolved words.problem.common.form t words.steps))

  which_lifts : (name : Option (Bor (List ℕ))) → Lifts given files (which_of given name) (which_of (Some files) name)
  which_lifts name = lifts_optional given files None name (λ file. lifts_bind given files (grouping_lifts file) (λ g. lifts_value given files (λ held. held ≡ Some g)))

  list_lifts : (words : ListWords) → Lifts given files (list_steps given words) (list_steps (Some files) words)
  list_lifts words =
      lifts_bind given files (tabled_lifts words.check.problem (reads_names words.check.problem.common words.groupings)) (λ t.
      lifts_bind given files (which_lifts words.which) (λ which. lifts_bind given files (lifts_load given files words.check.certificate.now) (λ text.
      lifts_value given files (IsListAnswer words.check.problem.common.form t words.check.budget (asked_by words which) text))))

  events_lift : (format : rounds.Format) (counties : ℕ) (name : List ℕ) → Lifts given files (events_of given format counties name) (events_of (Some files) format counties name)
  events_lift format counties name = lifts_bind given files (lifts_load given files name) (λ text. lifts_call given files events_answer (AreEvents format counties text))

  named_events_lift : (format : rounds.Format) (counties : ℕ) (name : Option (Bor (List ℕ)))
      → Lifts given files (named_events_of given format counties name) (named_events_of (Some files) format counties name)
  named_events_lift format counties name = lifts_optional given files [] name (λ file. events_lift format counties file)

  share_lifts : (words : ShareWords) → Lifts given files (share_steps given words) (share_steps (Some files) words)
  share_lifts words =
      lifts_bind given files (problem_lifts words.board.problem) (λ v. lifts_bind given files (grouping_lifts words.board.grouping.now) (λ g.
      lifts_bind given files (events_lift (format_of words.board.round) (length v.counties) words.events.now) (λ events.
      lifts_call given files board_answer (AnswersOnBoard v g words.board.round words.budget (λ round. IsShared (problem_of v) (depth_of words.board.round) words.budget round events)))))

  piece_lifts : (words : PieceWords) → Lifts given files (piece_steps given words) (piece_steps (Some files) words)
  piece_lifts words =
      lifts_bind given files (problem_lifts words.board.problem) (λ v. lifts_bind given files (grouping_lifts words.board.grouping.now) (λ g.
      lifts_bind given files (named_events_lift (format_of words.board.round) (length v.counties) words.events) (λ events.
      lifts_bind given files (lifts_call given files board_answer (AnswersOnBoard v g words.board.round piece_budget (λ round. IsAnswered (problem_of v) (depth_of words.board.round) round events words.number))) (λ piece.
      lifts_value given files (λ a. a ≡ piece_said words.round words.number piece)))))

  worker_lifts : (words : WorkerWords) → Lifts given files (worker_steps given words) (worker_steps (Some files) words)
  worker_lifts words =
      lifts_bind given files (problem_lifts words.problem) (λ v. lifts_bind given files (lifts_read_one given files standard_input) (λ back. lifts_value given files (IsWorkerRun v back)))

  -- steps after whose files something is said
  saying_ends : {S : Type 0} (steps on_files : Steps S) (files_of : S → List NamedFile) (say : S → Option Answered → Answered) → Lifts given files steps on_files
      → (before after : History) (stored : List NamedFile) (a : Answered) → StoresThenAnswers steps files_of say before after stored a → AnsweredBy files before after
      → StoresThenAnswers on_files files_of say before after stored a
  saying_ends steps on_files files_of say lift before after stored a (inl h) by = inl (lift.lifts before after (Err a) h.0 by, h.1)
  saying_ends steps on_files files_of say lift before after stored a (inr h) by =
      let parts = answered_split given files before h.1 after (lift.extends before h.1 (Ok h.0) h.3) (stores_extend _ h.1 after stored h.2 h.4) by in
      inr (h.0, h.1, h.2, lift.lifts before h.1 (Ok h.0) h.3 parts.0, h.4, h.5)

  storing_ends : {S : Type 0} (steps on_files : Steps S) (files_of : S → List NamedFile) (answer : S → Answered) → Lifts given files steps on_files
      → (before after : History) (stored : List NamedFile) (a : Answered) → EndsStoring steps files_of answer before after stored a → AnsweredBy files before after
      → EndsStoring on_files files_of answer before after stored a
  storing_ends steps on_files files_of answer lift before after stored a h by = saying_ends steps on_files files_of (λ s refusal. said_after refusal (answer s)) lift before after stored a h by

  worker_ends : (words : WorkerWords) (before after : History) (stored : List NamedFile) (a : Answered) → WorkerEnds given words before after stored a → AnsweredBy files before after
      → WorkerEnds (Some files) words before after stored a
  worker_ends words before after stored a (inl stop, none) by = (inl ((worker_lifts words).lifts before after (Err a) stop by), none)
  worker_ends words before after stored a (inr h, none) by = (inr (h.0, (worker_lifts words).lifts before after (Ok h.0) h.1 by, h.2), none)

  command_ends : (command : CommandWords) (before after : History) (stored : List NamedFile) (a : Answered) → CommandEnds given command before after stored a → AnsweredBy files before after
      → CommandEnds (Some files) command before after stored a
  command_ends (Size words) before after stored a h by = (ends_lift given files (size_lifts words) before after a h.0 by, h.1)
  command_ends (Judge words) before after stored a h by = storing_ends _ _ (λ (r : Reported). named_file words.table r.table) (λ r. r.answer) (judge_lifts words) before after stored a h by
  command_ends (Solve words) before after stored a h by = storing_ends _ _ (files_to_store words) (λ s. s.answer) (solve_lifts words) before after stored a h by
  command_ends (Check words) before after stored a h by = storing_ends _ _ (λ (r : Reported). named_file words.table r.table) (λ r. r.answer) (check_lifts words) before after stored a h by
  command_ends (Audit words) before after stored a h by = storing_ends _ _ (λ (s : Audited). named_file words.districts s.districts) (λ s. s.answer) (audit_lifts words) before after stored a h by
  command_ends (ListAll words) before after stored a h by = storing_ends _ _ (listed_files words) (λ s. s.answer) (list_lifts words) before after stored a h by
  command_ends (Share words) before after stored a h by = storing_ends _ _ (joined_file words) share_answer (share_lifts words) before after stored a h by
  command_ends (Piece words) before after stored a h by = (ends_lift given files (piece_lifts words) before after a h.0 by, h.1)
  command_ends (Worker words) before after stored a h by = worker_ends words before after stored a h by

  -- a command's steps only add events
  quiet_extends : (steps on_files : Steps Answered) → Lifts given files steps on_files → (before after : History) (a : Answered) → StepsEndIn steps before after a → Extends before after
  quiet_extends steps on_files lift before after a (inl h) = lift.extends before after (Ok a) h
  quiet_extends steps on_files lift before after a (inr h) = lift.extends before after (Err a) h

  saying_extends : {S : Type 0} (steps on_files : Steps S) (files_of : S → List NamedFile) (say : S → Option Answered → Answered) → Lifts given files steps on_files
      → (before after : History) (stored : List NamedFile) (a : Answered) → StoresThenAnswers steps files_of say before after stored a → Extends before after
  saying_extends steps on_files files_of say lift before after stored a (inl h) = lift.extends before after (Err a) h.0
  saying_extends steps on_files files_of say lift before after stored a (inr h) =
      let read = lift.extends before h.1 (Ok h.0) h.3 in
      let put = stores_extend (files_of h.0) h.1 after stored h.2 h.4 in
      (read.0 ++ put.0, extends_twice before h.1 after read put)

  storing_extends : {S : Type 0} (steps on_files : Steps S) (files_of : S → List NamedFile) (answer : S → Answered) → Lifts given files steps on_files
      → (before after : History) (stored : List NamedFile) (a : Answered) → EndsStoring steps files_of answer before after stored a → Extends before after
  storing_extends steps on_files files_of answer lift before after stored a h = saying_extends steps on_files files_of (λ s refusal. said_after refusal (answer s)) lift before after stored a h

  worker_extends : (words : WorkerWords) (before after : History) (stored : List NamedFile) (a : Answered) → WorkerEnds given words before after stored a → Extends before after
  worker_extends words before after stored a (inl stop, none) = (worker_lifts words).extends before after (Err a) stop
  worker_extends words before after stored a (inr h, none) = (worker_lifts words).extends before after (Ok h.0) h.1

  command_extends : (command : CommandWords) (before after : History) (stored : List NamedFile) (a : Answered) → CommandEnds given command before after stored a → Extends before after
  command_extends (Size words) before after stored a h = quiet_extends _ _ (size_lifts words) before after a h.0
  command_extends (Judge words) before after stored a h = storing_extends _ _ (λ r. named_file words.table r.table) (λ r. r.answer) (judge_lifts words) before after stored a h
  command_extends (Solve words) before after stored a h = storing_extends _ _ (files_to_store words) (λ s. s.answer) (solve_lifts words) before after stored a h
  command_extends (Check words) before after stored a h = storing_extends _ _ (λ r. named_file words.table r.table) (λ r. r.answer) (check_lifts words) before after stored a h
  command_extends (Audit words) before after stored a h = storing_extends _ _ (λ s. named_file words.districts s.districts) (λ s. s.answer) (audit_lifts words) before after stored a h
  command_extends (ListAll words) before after stored a h = storing_extends _ _ (listed_files words) (λ s. s.answer) (list_lifts words) before after stored a h
  command_extends (Share words) before after stored a h = storing_extends _ _ (joined_file words) share_answer (share_lifts words) before after stored a h
  command_extends (Piece words) before after stored a h = quiet_extends _ _ (piece_lifts words) before after a h.0
  command_extends (Worker words) before after stored a h = worker_extends words before after stored a h

  shown_ends : (command : CommandWords) (before after : History) (stored : List NamedFile) (a : Answered) → EndsShown given command before after stored a
      → AnsweredBy files before after → EndsShown (Some files) command before after stored a
  shown_ends command before after stored a run by =
      record { raw = run.raw; ends = command_ends command before after stored run.raw run.ends by; shown = run.shown }

  command_run : (command : CommandWords) (before after : History) (stored : List NamedFile) (a : Answered) → CommandRun given command before after stored a → AnsweredBy files before after
      → CommandRun (Some files) command before after stored a
  command_run command before after stored a (inl none) by = inl none
  command_run command before after stored a (inr run) by = inr (shown_ends command before after stored a run by)

  -- a run with its record
  pub own_run : (words : List (List ℕ)) (command : CommandWords) (name : List ℕ) (before between after : History) (own last : List NamedFile) (written : List ℕ) (said end : Answered)
      → CommandRun given command before between own (behind written said) → RecordEnds words command name before between after last written said end → AnsweredBy files before after
      → CommandRun (Some files) command before between own (behind written said)
  own_run words command name before between after own last written said end (inl none) ends by = inl none
  own_run words command name before between after own last written said end (inr run) ends by =
      let whole = behind written said in
      let parts = answered_split given files before between after (command_extends command before between own run.raw run.ends) (record_extends words command name before between after last written said end ends) by in
      inr (shown_ends command before between own whole run parts.0)

  pub as_asked : (words : List (List ℕ)) (command : CommandWords) (name : Option (List ℕ)) (before after : History) (stored : List NamedFile) (a : Answered)
      → RunsAsAsked given words command name before after stored a → AnsweredBy files before after → RunsAsAsked (Some files) words command name before after stored a
  as_asked words command None before after stored a run by = command_run command before after stored a run by
  as_asked words command (Some name) before after stored a r by = record {
    written = r.written;
    said = r.said;
    end = r.end;
    between = r.between;
    own = r.own;
    last = r.last;
    run = own_run words command name before r.between after r.own r.last r.written r.said r.end r.run r.record_ends by;
    record_ends = r.record_ends;
    all = r.all;
    answer = r.answer;
  }

  -- each file that was stored was taken between both histories
  taken_later : (before between after : History) (name bytes : List ℕ) → Extends before between → IsStoreTaken between after name bytes → IsStoreTaken before after name bytes
  taken_later before between after name bytes first k =
      let event = Stored name bytes true in
      let last = k.0 ++ (event ∷ k.1) in (
        first.0 ++ k.0,
        k.1,
        k.2 ∙ ap (λ (events : List FileStoreEvent). events ++ last) first.1 ∙ append_assoc before.events first.0 last
            ∙ ap (λ (events : List FileStoreEvent). before.events ++ events) (sym (append_assoc first.0 k.0 (event ∷ k.1))),
      )

  none_holds : (stored : List NamedFile) (f : NamedFile) → stored ≡ [] → Contains stored f → ⊥
  none_holds stored f none there = contains_nil f (subst (λ (list : List NamedFile). Contains list f) none there)

  stores_taken : (list : List NamedFile) (before after : History) (stored : List NamedFile) (refusal : Option Answered) → store_steps list before after stored refusal
      → (f : NamedFile) → Contains stored f → IsStoreTaken before after f.name f.bytes
  stores_taken [] before after stored refusal h f there = absurd (none_holds stored f h.1 there)
  stores_taken (g ∷ gs) before after stored refusal (inl h) f there = absurd (none_holds stored f h.none_stored there)
  stores_taken (g ∷ gs) before after stored refusal (inr h) f there =
      by_place (λ later. stores_taken gs h.0 after h.1 refusal h.4 f later) (contains_cases g h.1 f (subst (λ (list : List NamedFile). Contains list f) h.3 there))
    where
      by_place : (Contains h.1 f → IsStoreTaken h.0 after f.name f.bytes) → (g ≡ f) ⊎ Contains h.1 f → IsStoreTaken before after f.name f.bytes
      by_place rest (inl same) =
          let more = stores_extend gs h.0 after h.1 refusal h.4 in
          subst (λ (x : NamedFile). IsStoreTaken before after x.name x.bytes) same ([], more.0, extends_twice before h.0 after (_, h.2.1) more)
      by_place rest (inr later) = taken_later before h.0 after f.name f.bytes (_, h.2.1) (rest later)

  saying_taken : {S : Type 0} (steps on_files : Steps S) (files_of : S → List NamedFile) (say : S → Option Answered → Answered) → Lifts given files steps on_files
      → (before after : History) (stored : List NamedFile) (a : Answered) → StoresThenAnswers steps files_of say before after stored a → (f : NamedFile) → Contains stored f → IsStoreTaken before after f.name f.bytes
  saying_taken steps on_files files_of say lift before after stored a (inl h) f there = absurd (none_holds stored f h.1 there)
  saying_taken steps on_files files_of say lift before after stored a (inr h) f there =
      taken_later before h.1 after f.name f.bytes (lift.extends before h.1 (Ok h.0) h.3) (stores_taken (files_of h.0) h.1 after stored h.2 h.4 f there)

  storing_taken : {S : Type 0} (steps on_files : Steps S) (files_of : S → List NamedFile) (answer : S → Answered) → Lifts given files steps on_files
      → (before after : History) (stored : List NamedFile) (a : Answered) → EndsStoring steps files_of answer before after stored a → (f : NamedFile) → Contains stored f → IsStoreTaken before after f.name f.bytes
  storing_taken steps on_files files_of answer lift before after stored a h f there = saying_taken steps on_files files_of (λ s refusal. said_after refusal (answer s)) lift before after stored a h f there

  command_taken : (command : CommandWords) (before after : History) (stored : List NamedFile) (a : Answered) → CommandEnds given command before after stored a → (f : NamedFile) → Contains stored f
      → IsStoreTaken before after f.name f.bytes
  command_taken (Size words) before after stored a h f there = absurd (none_holds stored f h.1 there)
  command_taken (Judge words) before after stored a h f there = storing_taken _ _ (λ (r : Reported). named_file words.table r.table) (λ r. r.answer) (judge_lifts words) before after stored a h f there
  command_taken (Solve words) before after stored a h f there = storing_taken _ _ (files_to_store words) (λ s. s.answer) (solve_lifts words) before after stored a h f there
  command_taken (Check words) before after stored a h f there = storing_taken _ _ (λ (r : Reported). named_file words.table r.table) (λ r. r.answer) (check_lifts words) before after stored a h f there
  command_taken (Audit words) before after stored a h f there = storing_taken _ _ (λ (s : Audited). named_file words.districts s.districts) (λ s. s.answer) (audit_lifts words) before after stored a h f there
  command_taken (ListAll words) before after stored a h f there = storing_taken _ _ (listed_files words) (λ s. s.answer) (list_lifts words) before after stored a h f there
  command_taken (Share words) before after stored a h f there = storing_taken _ _ (joined_file words) share_answer (share_lifts words) before after stored a h f there
  command_taken (Piece words) before after stored a h f there = absurd (none_holds stored f h.1 there)
  command_taken (Worker words) before after stored a h f there = absurd (none_holds stored f h.1 there)

  pub run_taken : (command : CommandWords) (before after : History) (stored : List NamedFile) (a : Answered) → CommandRun given command before after stored a → (f : NamedFile) → Contains stored f
      → IsStoreTaken before after f.name f.bytes
  run_taken command before after stored a (inl none) f there = absurd (none_holds stored f none.1 there)
  run_taken command before after stored a (inr run) f there = command_taken command before after stored run.raw run.ends f there

  run_answer : (words : List (List ℕ)) (before after : History) (stored : List NamedFile) (a : Answered) → IsRunAnswer given words before after stored a → AnsweredBy files before after
      → IsRunAnswer (Some files) words before after stored a
  run_answer words before after stored a (inl none) by = inl none
  run_answer words before after stored a (inr (inl at_words)) by = inr (inl at_words)
  run_answer words before after stored a (inr (inr r)) by =
      inr (inr (record { command = r.command; meant = r.meant; taken = r.taken; run = as_asked words r.command (record_name_of r.command) before after stored a r.run by }))

pub of_their_loads : RunsAreOfTheirLoads
of_their_loads = record { answer = run_answer; run = command_run }
