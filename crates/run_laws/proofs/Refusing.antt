-- The status in which steps end where they meet a fault.
use Rattle.std.proofs.Common.{◌≡◌, ◌⊎◌, ℕ, Bool, true, false, List, [], Option, Some, None, inl, inr, refl, ap, ◌∙◌}
use Rattle.std.specs.Prelude.{Result, Err}
use Rattle.std.specs.Borrow.{Bor}
use Rattle.cli_file_stores.specs.Files.{Files}
use Rattle.cli_file_stores.specs.History.{History}
use Rattle.pl94_counties.specs.declared.fault.Pl94Kind.{Pl94Kind}
use Rattle.pl94_counties.specs.declared.fault.Pl94Kind.TheVariants as kinds
use Rattle.pl94_counties.specs.declared.county_names.NamedFault.{NamedFault}
use Rattle.pl94_counties.specs.declared.county_names.NamedFault.TheVariants as names
use Rattle.pl94_counties.specs.CountyNames.{named_list}
use Rattle.people_table.specs.Listed.{people_list, named_people_list}
use Rattle.people_table.specs.declared.fault.PeopleFault.{PeopleFault}
use Rattle.people_table.specs.declared.fault.PeopleKind.{PeopleKind}
use Rattle.people_table.specs.declared.fault.PeopleKind.TheVariants as people
use Rattle.grouping_laws.specs.Grouping as groups
use Rattle.county_codes.specs.declared.county.County.{County}
use Rattle.grouping_table.specs.Table.{unnamed_counties as without_names}
use Rattle.grouping_reader.specs.declared.fault.CodeLineKind.{CodeLineKind}
use Rattle.grouping_reader.specs.declared.fault.CodeLineKind.TheVariants as lines
use Rattle.grouping_reader.specs.declared.fault.CodeLineFault.{CodeLineFault}
use Rattle.certificate_lines.specs.declared.fault.TextFault.{TextFault}
use Rattle.certificate_lines.specs.declared.fault.TextKind.{TextKind}
use Rattle.certificate_lines.specs.declared.fault.TextKind.TheVariants as text
use Rattle.county_problem.specs.declared.fault.ProblemFault.{ProblemFault}
use Rattle.county_problem.specs.declared.fault.ProblemFault.TheVariants as problem
use Rattle.county_problem.specs.ProblemValue.{codes_of}
use Rattle.pl94_counties.specs.Counties.{county_list, block_list}
use Rattle.adjacency_reader.specs.Pairs.{IsPairsAnswer}
use Rattle.adjacency_reader.specs.Links.{link_list}
use Rattle.adjacency_reader.specs.WithdrawnSets.{withdrawn_list}
use Rattle.adjacency_reader.specs.Adjacency.{AreLinked}
use Rattle.grouping_reader.specs.GroupingLines.{grouping_list}
use Rattle.baf_auditor.specs.declared.fault.AssignmentKind.{AssignmentKind}
use Rattle.baf_auditor.specs.declared.fault.AssignmentKind.TheVariants as assigned
use Rattle.baf_auditor.specs.Assignments.{assignment_list}
use Rattle.cli_answers.specs.declared.refusal.InputFile.{InputFile}
use Rattle.cli_answers.specs.declared.refusal.InputFile.TheVariants.{Adjacency, Links, Withdrawn, Grouping, Events, Pieces}
use Rattle.cli_answers.specs.Answer.{Answered}
use Rattle.cli_answers.specs.Refusals.{file_store_answer, file_answer, pl94_answer, code_line_answer, code_file_answer, problem_answer, named_answer, people_line_answer, people_answer, assignment_line_answer, assignment_answer, text_line_answer, events_answer, pieces_answer}
use Rattle.cli_words.specs.declared.words.CommonWords.{CommonWords}
use Rattle.cli_words.specs.declared.words.CensusWords.{CensusWords}
use Rattle.cli_words.specs.declared.words.CountyWords.{CountyWords}
use Rattle.cli_words.specs.declared.words.CountyWords.TheVariants.{Census, People}
use Rattle.cli_words.specs.declared.words.ProblemWords.{ProblemWords}
use Rattle.run_laws.specs.Steps.{Steps, ◌>>=◌, load_step, call_step, value_step, optional_step}
use Rattle.run_laws.specs.Reading.{read_one, given_of, given_of_both, OfTexts}
use Rattle.run_laws.specs.PlanSteps.{blocks_of, plan_assignments}
use Rattle.run_laws.specs.ListSteps.{which_of}
use Rattle.run_laws.specs.TableSteps.{untabled, tabled_by, named_counties_by, named_counties_of, named_people_in, tabled_problem_in}
use Rattle.run_laws.proofs.Texts.{file_store_status, read_one_cuts, given_of_cuts, given_of_both_cuts}
use Rattle.run_laws.specs.ProblemSteps.{counties_by, counties_steps, people_in, pairs_of, pairs_in, links_of, links_in, withdrawn_of, withdrawn_in, adjacency_of, IsBuilt, problem_over, problem_steps, grouping_in, grouping_of}

-- the status of a refusal: 4 for a file, a problem or a board, and 5 for a file store or for memory
abbrev pub IsRefusal : Answered → Type 0
IsRefusal a = (a.status ≡ 4) ⊎ (a.status ≡ 5)

file_status : (file : InputFile) (kind : Pl94Kind) (line : ℕ) → IsRefusal (file_answer file kind line)
file_status file kinds.TooFewFields line = inl refl
file_status file kinds.BadCode line = inl refl
file_status file kinds.BadNumber line = inl refl
file_status file kinds.DoubleRecord line = inl refl
file_status file kinds.NoRecord line = inl refl
file_status file kinds.DoubleCounty line = inl refl
file_status file kinds.DoubleBlock line = inl refl
file_status file kinds.NoCounties line = inl refl
file_status file kinds.NoBlocks line = inl refl
file_status file kinds.TooMany line = inl refl
file_status file (kinds.Lower fault) line = inl refl
file_status file kinds.Memory line = inr refl

people_status : (kind : PeopleKind) (line : ℕ) → IsRefusal (people_line_answer kind line)
people_status people.BadLine line = inl refl
people_status people.BadCode line = inl refl
people_status people.BadNumber line = inl refl
people_status people.BadName line = inl refl
people_status people.DoubleCounty line = inl refl
people_status people.NoCounties line = inl refl
people_status (people.Lower fault) line = inl refl
people_status people.Memory line = inr refl

people_refused : (fault : PeopleFault) → IsRefusal (people_answer fault)
people_refused fault = people_status fault.kind fault.line

code_line_status : (file : InputFile) (kind : CodeLineKind) (line : ℕ) → IsRefusal (code_line_answer file kind line)
code_line_status file lines.TooFewFields line = inl refl
code_line_status file lines.BadSign line = inl refl
code_line_status file lines.BadSeats line = inl refl
code_line_status file lines.BadCode line = inl refl
code_line_status file (lines.Lower fault) line = inl refl
code_line_status file lines.Memory line = inr refl

assignment_status : (kind : AssignmentKind) (line : ℕ) → IsRefusal (assignment_line_answer kind line)
assignment_status assigned.TooFewFields line = inl refl
assignment_status assigned.BadCode line = inl refl
assignment_status assigned.BadLabel line = inl refl
assignment_status assigned.TooMany line = inl refl
assignment_status (assigned.Lower fault) line = inl refl
assignment_status assigned.Memory line = inr refl

pub problem_status : (fault : ProblemFault) → IsRefusal (problem_answer fault)
problem_status problem.BadWindow = inl refl
problem_status problem.SeatsOutOfRange = inl refl
problem_status problem.TooManyCounties = inl refl
problem_status (problem.DoubleCounty code) = inl refl
problem_status problem.NoPeople = inl refl
problem_status (problem.EmptyWithdrawn set) = inl refl
problem_status (problem.UnknownWithdrawn code) = inl refl
problem_status (problem.WithdrawnTwice code) = inl refl
problem_status problem.WithdrawnSeats = inl refl
problem_status (problem.UnknownPair a b) = inl refl
problem_status problem.Memory = inr refl

text_line_status : (file : InputFile) (kind : TextKind) (line : ℕ) → IsRefusal (text_line_answer file kind line)
text_line_status file text.BadHead line = inl refl
text_line_status file text.BadWord line = inl refl
text_line_status file text.BadNumber line = inl refl
text_line_status file text.NotCanonical line = inl refl
text_line_status file text.CutShort line = inl refl
text_line_status file text.AfterEnd line = inl refl
text_line_status file text.TooDeep line = inl refl
text_line_status file text.ReadFault line = inl refl
text_line_status file text.Memory line = inr refl

pub events_status : (fault : TextFault) → IsRefusal (events_answer fault)
events_status fault = text_line_status Events fault.kind fault.line

pub pieces_status : (fault : TextFault) → IsRefusal (pieces_answer fault)
pieces_status fault = text_line_status Pieces fault.kind fault.line

-- an answer that is a refusal's
pub as_refused : (a b : Answered) → a ≡ b → IsRefusal b → IsRefusal a
as_refused a b e (inl s) = inl (ap (λ (x : Answered). x.status) e ∙ s)
as_refused a b e (inr s) = inr (ap (λ (x : Answered). x.status) e ∙ s)

-- the steps end in no other answers
abbrev pub Refuses : {X : Type 0} → Steps X → Type 0
Refuses steps = (before after : History) (a : Answered) → steps before after (Err a) → IsRefusal a

pub bind_refuses : {X Y : Type 0} (first : Steps X) (next : X → Steps Y) → Refuses first → ((x : X) → Refuses (next x)) → Refuses (first >>= next)
bind_refuses first next f n before after a (inl stop) = f before after a stop
bind_refuses first next f n before after a (inr on) = n on.value on.between after a on.goes_on

pub load_refuses : (files : Option Files) (name : List ℕ) → Refuses (load_step files name)
load_refuses files name before after a h = as_refused a (file_store_answer name h.0) h.3 (inr (file_store_status name h.0))

pub call_refuses : {X F : Type 0} (refuse : F → Answered) (R : Result X F → Type 0) → ((fault : F) → IsRefusal (refuse fault)) → Refuses (call_step refuse R)
call_refuses refuse R all before after a h = as_refused a (refuse h.1.0) h.1.2 (all h.1.0)

pub value_refuses : {X : Type 0} (P : X → Type 0) → Refuses (value_step P)
value_refuses P before after a h = absurd h

optional_refuses : {X : Type 0} (value : X) (steps : List ℕ → Steps X) (name : Option (Bor (List ℕ))) → ((file : List ℕ) → Refuses (steps file)) → Refuses (optional_step value steps name)
optional_refuses value steps None all = value_refuses (λ x. x ≡ value)
optional_refuses value steps (Some name) all = all name.now

-- a reader that isn't had
pub read_one_refuses : (files : Option Files) (name : List ℕ) → Refuses (read_one files name)
read_one_refuses files name before after a h = inr (read_one_cuts files name before after a h)

-- a file that isn't read
pub given_refuses : (files : Option Files) (name : List ℕ) → Refuses (given_of files name)
given_refuses files name before after a h = inr (given_of_cuts files name before after a h)

-- files that aren't read
both_refuse : (files : Option Files) (first second : List ℕ) → Refuses (given_of_both files first second)
both_refuse files first second before after a h = inr (given_of_both_cuts files first second before after a h)

-- counties that aren't had
counties_by_refuse : (files : Option Files) (state : ℕ) (words : CountyWords) → Refuses (counties_by files state words)
counties_by_refuse files state (Census census) =
    bind_refuses (given_of_both files census.geo.now census.segment.now) _ (both_refuse files census.geo.now census.segment.now) (λ given.
    call_refuses pl94_answer (λ counties. OfTexts (λ g s. county_list g s state ≡ counties) given.0 given.1) (λ fault. file_status _ fault.kind fault.line))
counties_by_refuse files state (People table) =
    bind_refuses (load_step files table.now) (people_in state) (load_refuses files table.now) (λ text.
    call_refuses people_answer (λ counties. people_list text state ≡ counties) people_refused)

pub counties_refuse : (files : Option Files) (words : CommonWords) → Refuses (counties_steps files words)
counties_refuse files words = counties_by_refuse files words.state words.counties

code_file_refuses : {X : Type 0} (file : InputFile) (R : Result X CodeLineFault → Type 0) → Refuses (call_step (code_file_answer file) R)
code_file_refuses file R = call_refuses (code_file_answer file) R (λ fault. code_line_status file fault.kind fault.line)

adjacency_refuses : (files : Option Files) (listed : List ℕ) (words : ProblemWords) → Refuses (adjacency_of files listed words)
adjacency_refuses files listed words =
    bind_refuses (pairs_of files listed words.adjacency.now) _
    (bind_refuses (load_step files words.adjacency.now) (pairs_in listed) (load_refuses files words.adjacency.now) (λ text. code_file_refuses Adjacency (IsPairsAnswer text listed)))
    (λ pairs. bind_refuses (links_of files words.links) _
    (optional_refuses [] _ words.links (λ file. bind_refuses (load_step files file) links_in (load_refuses files file) (λ text. code_file_refuses Links (λ links. link_list text ≡ links))))
    (λ links. value_refuses (AreLinked pairs links)))

withdrawn_refuses : (files : Option Files) (name : Option (Bor (List ℕ))) → Refuses (withdrawn_of files name)
withdrawn_refuses files name = optional_refuses [] _ name (λ file. bind_refuses (load_step files file) withdrawn_in (load_refuses files file) (λ text. code_file_refuses Withdrawn (λ sets. withdrawn_list text ≡ sets)))

-- a grouping that isn't had
pub grouping_refuses : (files : Option Files) (name : List ℕ) → Refuses (grouping_of files name)
grouping_refuses files name = bind_refuses (load_step files name) grouping_in (load_refuses files name) (λ text. code_file_refuses Grouping (λ grouping. grouping_list text ≡ grouping))

-- a grouping that isn't had, if its file is named
pub which_refuses : (files : Option Files) (name : Option (Bor (List ℕ))) → Refuses (which_of files name)
which_refuses files name = optional_refuses None _ name (λ file.
    bind_refuses (grouping_of files file) (λ g. value_step (λ (held : Option groups.Grouping). held ≡ Some g)) (grouping_refuses files file)
    (λ g. value_refuses (λ (held : Option groups.Grouping). held ≡ Some g)))

-- a problem that isn't had
over_refuses : (files : Option Files) (words : ProblemWords) (counties : List County) → Refuses (problem_over files words counties)
over_refuses files words counties =
    bind_refuses _ _ (adjacency_refuses files (codes_of counties) words) (λ pairs.
    bind_refuses _ _ (withdrawn_refuses files words.withdrawn) (λ withdrawn.
    call_refuses problem_answer (IsBuilt counties pairs withdrawn words.common.chamber words.common.tolerance) problem_status))

pub problem_refuses : (files : Option Files) (words : ProblemWords) → Refuses (problem_steps files words)
problem_refuses files words = bind_refuses _ _ (counties_refuse files words.common) (over_refuses files words)

named_status : (fault : NamedFault) → IsRefusal (named_answer fault)
named_status (names.Files fault) = file_status _ fault.kind fault.line
named_status (names.BadName line) = inl refl

named_by_refuse : (files : Option Files) (state : ℕ) (words : CountyWords) → Refuses (named_counties_by files state words)
named_by_refuse files state (Census census) =
    bind_refuses (given_of_both files census.geo.now census.segment.now) _ (both_refuse files census.geo.now census.segment.now) (λ given.
    call_refuses named_answer (λ counties. OfTexts (λ g s. named_list g s state ≡ counties) given.0 given.1) named_status)
named_by_refuse files state (People table) =
    bind_refuses (load_step files table.now) (named_people_in state) (load_refuses files table.now) (λ text.
    call_refuses people_answer (λ counties. named_people_list text state ≡ counties) people_refused)

pub named_refuse : (files : Option Files) (words : CommonWords) → Refuses (named_counties_of files words)
named_refuse files words = named_by_refuse files words.state words.counties

pub tabled_refuses : (files : Option Files) (words : ProblemWords) (reads : Bool) → Refuses (tabled_problem_in files words reads)
tabled_refuses files words false = bind_refuses _ _ (problem_refuses files words) (λ v. value_refuses (λ t. t ≡ untabled v))
tabled_refuses files words true =
    bind_refuses _ _ (named_refuse files words.common) (λ named.
    bind_refuses _ _ (over_refuses files words (without_names named)) (λ v. value_refuses (λ t. t ≡ tabled_by named v)))

-- census blocks that aren't had
pub blocks_refuse : (files : Option Files) (census : CensusWords) (state : ℕ) → Refuses (blocks_of files census state)
blocks_refuse files census state =
    bind_refuses (given_of_both files census.geo.now census.segment.now) _ (both_refuse files census.geo.now census.segment.now) (λ given.
    call_refuses pl94_answer (λ blocks. OfTexts (λ g s. block_list g s state ≡ blocks) given.0 given.1) (λ fault. file_status _ fault.kind fault.line))

-- assignments that aren't had
pub assignments_refuse : (files : Option Files) (name : List ℕ) → Refuses (plan_assignments files name)
assignments_refuse files name =
    bind_refuses (load_step files name) _ (load_refuses files name) (λ text.
    call_refuses assignment_answer (λ lines. assignment_list text ≡ lines) (λ fault. assignment_status fault.kind fault.line))
