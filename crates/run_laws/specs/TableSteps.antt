-- The steps that give a problem with the names of its counties, and the table of a grouping that a command reports.
use Rattle.std.specs.Prelude.{◌≡◌, ℕ, Bool, true, false, List, Option, Some, None, option_map}
use Rattle.county_codes.specs.declared.group.Group.{Group}
use Rattle.county_problem.specs.ProblemValue.{ProblemValue}
use Rattle.pl94_counties.specs.CountyNames.{CountyName, named_list}
use Rattle.people_table.specs.Listed.{named_people_list}
use Rattle.grouping_table.specs.Table.{unnamed_counties as without_names, table_text}
use Rattle.cli_words.specs.declared.words.CommonWords.{CommonWords}
use Rattle.cli_words.specs.declared.words.CensusWords.{CensusWords}
use Rattle.cli_words.specs.declared.words.CountyWords.{CountyWords}
use Rattle.cli_words.specs.declared.words.CountyWords.TheVariants.{Census, People}
use Rattle.cli_words.specs.declared.words.ProblemWords.{ProblemWords}
use Rattle.cli_file_stores.specs.Files.{Files}
use Rattle.cli_answers.specs.Answer.{Answered}
use Rattle.cli_answers.specs.Refusals.{named_answer, people_answer}
use Rattle.field_lines.specs.Source.{Given}
use Rattle.run_laws.specs.Reading.{given_of_both, OfTexts}
use Rattle.run_laws.specs.Steps.{Steps, ◌>>=◌, load_step, call_step, value_step}
use Rattle.run_laws.specs.ProblemSteps.{problem_over, problem_steps}

-- The counties with their names that two files give, or their first fault: those of each two texts that begin with what
-- was read.
abbrev pub named_counties_in : ℕ → Given → Given → Steps (List CountyName)
named_counties_in state geo segment =
    call_step named_answer (λ counties. OfTexts (λ g s. named_list g s state ≡ counties) geo segment)

-- the counties of a state with their names that a table of counties gives, or its first fault
abbrev pub named_people_in : ℕ → List ℕ → Steps (List CountyName)
named_people_in state table = call_step people_answer (λ counties. named_people_list table state ≡ counties)

-- The counties of a state with their names by the census files: the geographic header and segment 1 are read once.
abbrev pub named_of_census : Option Files → ℕ → CensusWords → Steps (List CountyName)
named_of_census files state census =
    given_of_both files census.geo.now census.segment.now >>= λ given. named_counties_in state given.0 given.1

-- the counties of a state with their names by a table of counties
abbrev pub named_of_table : Option Files → ℕ → List ℕ → Steps (List CountyName)
named_of_table files state name = load_step files name >>= named_people_in state

-- the counties of a state with their names by the files that the words name
abbrev pub named_counties_by : Option Files → ℕ → CountyWords → Steps (List CountyName)
named_counties_by files state (Census census) = named_of_census files state census
named_counties_by files state (People table) = named_of_table files state table.now

-- the counties of the state with their names
abbrev pub named_counties_of : Option Files → CommonWords → Steps (List CountyName)
named_counties_of files words = named_counties_by files words.state words.counties

-- a problem, with all listed counties and their names exactly if these are read
pub record Tabled : Type 0 where
  pub problem : ProblemValue
  pub named : Option (List CountyName)

-- a problem without names
abbrev pub untabled : ProblemValue → Tabled
untabled v = record { problem = v; named = None }

-- a problem with the names of its listed counties
abbrev pub tabled_by : List CountyName → ProblemValue → Tabled
tabled_by named v = record { problem = v; named = Some named }

-- the problem of counties that have names
abbrev pub named_problem_over : Option Files → ProblemWords → List CountyName → Steps Tabled
named_problem_over files words named =
    problem_over files words (without_names named) >>= λ v. value_step (λ t. t ≡ tabled_by named v)

-- the problem, whose counties are read with their names
abbrev pub named_problem_in : Option Files → ProblemWords → Steps Tabled
named_problem_in files words = named_counties_of files words.common >>= λ named. named_problem_over files words named

-- the problem, whose counties are read with their names if this is asked for
abbrev pub tabled_problem_in : Option Files → ProblemWords → Bool → Steps Tabled
tabled_problem_in files words false = problem_steps files words >>= λ v. value_step (λ t. t ≡ untabled v)
tabled_problem_in files words true = named_problem_in files words

-- the table of groups, if the counties have names
abbrev pub table_of : Tabled → List Group → Option (List ℕ)
table_of t groups = option_map (λ named. table_text named t.problem.withdrawn groups) t.named

-- what a command says, and the table that it stores if its file is named
pub record Reported : Type 0 where
  pub answer : Answered
  pub table : Option (List ℕ)
