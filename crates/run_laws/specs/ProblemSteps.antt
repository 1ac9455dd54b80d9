-- The steps from files to a problem, and to a grouping.
use Rattle.std.specs.Prelude.{◌≡◌, ℕ, List, [], Option, Some, None, Result, Ok, Err}
use Rattle.std.specs.Borrow.{Bor}
use Rattle.county_codes.specs.declared.county.County.{County}
use Rattle.county_codes.specs.declared.tolerance.Tolerance.{Tolerance}
use Rattle.county_codes.specs.declared.withdrawn.Withdrawn as county
use Rattle.county_problem.specs.declared.fault.ProblemFault.{ProblemFault}
use Rattle.county_problem.specs.ProblemValue.{ProblemValue, codes_of}
use Rattle.county_problem.specs.Building.{IsProblemOf, problem_fault}
use Rattle.grouping_laws.specs.Grouping as groups
use Rattle.pl94_counties.specs.Counties.{county_list}
use Rattle.people_table.specs.Listed.{people_list}
use Rattle.adjacency_reader.specs.declared.links.Link.{Link}
use Rattle.adjacency_reader.specs.Pairs.{IsPairsAnswer}
use Rattle.adjacency_reader.specs.Links.{link_list}
use Rattle.adjacency_reader.specs.WithdrawnSets.{withdrawn_list}
use Rattle.adjacency_reader.specs.Adjacency.{AreLinked}
use Rattle.grouping_reader.specs.GroupingLines.{grouping_list}
use Rattle.cli_words.specs.declared.words.CommonWords.{CommonWords}
use Rattle.cli_words.specs.declared.words.CensusWords.{CensusWords}
use Rattle.cli_words.specs.declared.words.CountyWords.{CountyWords}
use Rattle.cli_words.specs.declared.words.CountyWords.TheVariants.{Census, People}
use Rattle.cli_words.specs.declared.words.ProblemWords.{ProblemWords}
use Rattle.cli_file_stores.specs.Files.{Files}
use Rattle.cli_answers.specs.declared.refusal.InputFile.TheVariants.{Adjacency, Links, Withdrawn, Grouping}
use Rattle.cli_answers.specs.Refusals.{pl94_answer, people_answer, code_file_answer, problem_answer}
use Rattle.field_lines.specs.Source.{Given}
use Rattle.run_laws.specs.Reading.{given_of_both, OfTexts}
use Rattle.run_laws.specs.Steps.{Steps, ◌>>=◌, load_step, call_step, value_step, optional_step}

-- The counties that two files give, or their first fault: those of each two texts that begin with what was read.
abbrev pub counties_in : ℕ → Given → Given → Steps (List County)
counties_in state geo segment =
    call_step pl94_answer (λ counties. OfTexts (λ g s. county_list g s state ≡ counties) geo segment)

-- the counties of a state that a table of counties gives, or its first fault
abbrev pub people_in : ℕ → List ℕ → Steps (List County)
people_in state table = call_step people_answer (λ counties. people_list table state ≡ counties)

-- The counties of a state by the census files: the geographic header and segment 1 are read once.
abbrev pub counties_of_census : Option Files → ℕ → CensusWords → Steps (List County)
counties_of_census files state census =
    given_of_both files census.geo.now census.segment.now >>= λ given. counties_in state given.0 given.1

-- the counties of a state by a table of counties
abbrev pub counties_of_table : Option Files → ℕ → List ℕ → Steps (List County)
counties_of_table files state name = load_step files name >>= people_in state

-- the counties of a state by the files that the words name
abbrev pub counties_by : Option Files → ℕ → CountyWords → Steps (List County)
counties_by files state (Census census) = counties_of_census files state census
counties_by files state (People table) = counties_of_table files state table.now

-- the counties of the state
abbrev pub counties_steps : Option Files → CommonWords → Steps (List County)
counties_steps files words = counties_by files words.state words.counties

-- the pairs of listed counties that an adjacency file gives
abbrev pub pairs_in : List ℕ → List ℕ → Steps (List (ℕ × ℕ))
pairs_in listed text = call_step (code_file_answer Adjacency) (IsPairsAnswer text listed)

-- the links that a file gives
abbrev pub links_in : List ℕ → Steps (List Link)
links_in text = call_step (code_file_answer Links) (λ links. link_list text ≡ links)

-- the withdrawn sets that a file gives
abbrev pub withdrawn_in : List ℕ → Steps (List county.Withdrawn)
withdrawn_in text = call_step (code_file_answer Withdrawn) (λ sets. withdrawn_list text ≡ sets)

-- the grouping that a file gives
abbrev pub grouping_in : List ℕ → Steps groups.Grouping
grouping_in text = call_step (code_file_answer Grouping) (λ grouping. grouping_list text ≡ grouping)

-- the pairs of listed counties of an adjacency file
abbrev pub pairs_of : Option Files → List ℕ → List ℕ → Steps (List (ℕ × ℕ))
pairs_of files listed name = load_step files name >>= pairs_in listed

-- the links of a file that is named, else none
abbrev pub links_of : Option Files → Option (Bor (List ℕ)) → Steps (List Link)
links_of files name = optional_step [] (λ file. load_step files file >>= links_in) name

-- the withdrawn sets of a file that is named, else none
abbrev pub withdrawn_of : Option Files → Option (Bor (List ℕ)) → Steps (List county.Withdrawn)
withdrawn_of files name = optional_step [] (λ file. load_step files file >>= withdrawn_in) name

-- the adjacent pairs: those of the adjacency file, and then the links over them
abbrev pub adjacency_of : Option Files → List ℕ → ProblemWords → Steps (List (ℕ × ℕ))
adjacency_of files listed words =
    pairs_of files listed words.adjacency.now >>= λ pairs. links_of files words.links
    >>= λ links. value_step (AreLinked pairs links)

-- the problem that is built, or its fault
abbrev pub IsBuilt : List County → List (ℕ × ℕ) → List county.Withdrawn → ℕ → Tolerance → Result ProblemValue ProblemFault
    → Type 0
IsBuilt counties pairs withdrawn chamber tolerance (Ok v) =
    (problem_fault counties pairs withdrawn chamber tolerance ≡ None)
    × IsProblemOf counties pairs withdrawn chamber tolerance v
IsBuilt counties pairs withdrawn chamber tolerance (Err fault) =
    problem_fault counties pairs withdrawn chamber tolerance ≡ Some fault

-- the step that builds the problem
abbrev pub build_step : ℕ → Tolerance → List County → List (ℕ × ℕ) → List county.Withdrawn → Steps ProblemValue
build_step chamber tolerance counties pairs withdrawn =
    call_step problem_answer (IsBuilt counties pairs withdrawn chamber tolerance)

-- The problem of these counties: its other files are had and read one after the other, adjacency first, then links and
-- withdrawn sets, and then it is built.
abbrev pub problem_over : Option Files → ProblemWords → List County → Steps ProblemValue
problem_over files words counties =
    adjacency_of files (codes_of counties) words >>= λ pairs. withdrawn_of files words.withdrawn
    >>= build_step words.common.chamber words.common.tolerance counties pairs

-- The problem: the files of its counties are had and read first, and then the other files.
abbrev pub problem_steps : Option Files → ProblemWords → Steps ProblemValue
problem_steps files words = counties_steps files words.common >>= λ counties. problem_over files words counties

-- the grouping of a file
abbrev pub grouping_of : Option Files → List ℕ → Steps groups.Grouping
grouping_of files name = load_step files name >>= grouping_in
