-- The problem that the bytes of files tell, none of which is at fault.
use Rattle.std.specs.Prelude.{◌≡◌, ℕ, Bool, true, false, List, [], Option, Some, None, Result, Ok}
use Rattle.std.specs.Borrow.{Bor}
use Rattle.county_codes.specs.declared.county.County.{County}
use Rattle.county_codes.specs.declared.withdrawn.Withdrawn as county
use Rattle.grouping_laws.specs.Grouping as groups
use Rattle.county_problem.specs.ProblemValue.{ProblemValue, codes_of}
use Rattle.county_problem.specs.Building.{IsProblemOf, problem_fault}
use Rattle.pl94_counties.specs.CountyNames.{CountyName, named_list}
use Rattle.grouping_table.specs.Table.{table_text}
use Rattle.grouping_table.specs.GroupingsTable.{groupings_text}
use Rattle.pl94_counties.specs.declared.blocks.Block.{Block}
use Rattle.pl94_counties.specs.Counties.{county_list, block_list}
use Rattle.pl94_counties.specs.ListedAreas.{AreCounties, AreBlocks}
use Rattle.people_table.specs.Listed.{people_list, named_people_list}
use Rattle.people_table.specs.CountiesOfTable.{AreCountiesOfTable}
use Rattle.adjacency_reader.specs.declared.links.Link.{Link}
use Rattle.adjacency_reader.specs.Rows.{row_list}
use Rattle.adjacency_reader.specs.Pairs.{ArePairs}
use Rattle.adjacency_reader.specs.Links.{link_list}
use Rattle.adjacency_reader.specs.WithdrawnSets.{withdrawn_list}
use Rattle.adjacency_reader.specs.Adjacency.{AreLinked}
use Rattle.baf_auditor.specs.declared.assignments.Assignment.{Assignment}
use Rattle.baf_auditor.specs.Assignments.{assignment_list}
use Rattle.grouping_reader.specs.GroupingLines.{grouping_list}
use Rattle.cli_words.specs.declared.words.CommonWords.{CommonWords}
use Rattle.cli_words.specs.declared.words.CensusWords.{CensusWords}
use Rattle.cli_words.specs.declared.words.CountyWords.{CountyWords}
use Rattle.cli_words.specs.declared.words.CountyWords.TheVariants.{Census, People}
use Rattle.cli_words.specs.declared.words.ProblemWords.{ProblemWords}
use Rattle.cli_file_stores.specs.Files.{Files}

-- the bytes under a name are read as this value
abbrev pub IsReadAs : {X F : Type 0} → (List ℕ → Result X F) → Files → List ℕ → X → Type 0
IsReadAs read files name value = (text : List ℕ) × (files name ≡ Some text) × (read text ≡ Ok value)

-- The bytes under a name are read as this list. If no file is named, the list is empty.
abbrev pub IsReadAsIfNamed : {X F : Type 0} → (List ℕ → Result (List X) F) → Files → Option (Bor (List ℕ)) → List X
    → Type 0
IsReadAsIfNamed read files None list = list ≡ []
IsReadAsIfNamed read files (Some name) list = IsReadAs read files name.now list

-- The counties of a state by the bytes of the geographic header and of segment 1, of which no line is at fault.
pub record AreCountiesOfCensus (files : Files) (state : ℕ) (census : CensusWords) (counties : List County) : Type 0 where
  pub geo : List ℕ
  pub segment : List ℕ
  pub geo_is : files census.geo.now ≡ Some geo
  pub segment_is : files census.segment.now ≡ Some segment
  pub faultless : county_list geo segment state ≡ Ok counties
  pub are : AreCounties geo segment state counties

-- The counties of a state by the bytes of a table of counties, of which no line is at fault.
pub record AreCountiesOfPeople (files : Files) (state : ℕ) (name : List ℕ) (counties : List County) : Type 0 where
  pub table : List ℕ
  pub table_is : files name ≡ Some table
  pub faultless : people_list table state ≡ Ok counties
  pub are : AreCountiesOfTable table state counties

-- the counties of a state by the files that the words name
abbrev pub AreCountiesBy : Files → ℕ → CountyWords → List County → Type 0
AreCountiesBy files state (Census census) counties = AreCountiesOfCensus files state census counties
AreCountiesBy files state (People name) counties = AreCountiesOfPeople files state name.now counties

-- the counties of the state
abbrev pub AreCountiesOfFiles : Files → CommonWords → List County → Type 0
AreCountiesOfFiles files words counties = AreCountiesBy files words.state words.counties counties

-- the counties of a state with their names by the bytes of the geographic header and of segment 1
pub record AreNamedByCensus (files : Files) (state : ℕ) (census : CensusWords) (named : List CountyName) : Type 0 where
  pub geo : List ℕ
  pub segment : List ℕ
  pub geo_is : files census.geo.now ≡ Some geo
  pub segment_is : files census.segment.now ≡ Some segment
  pub are : named_list geo segment state ≡ Ok named

-- the counties of a state with their names by the bytes of a table of counties
pub record AreNamedByPeople (files : Files) (state : ℕ) (name : List ℕ) (named : List CountyName) : Type 0 where
  pub table : List ℕ
  pub table_is : files name ≡ Some table
  pub are : named_people_list table state ≡ Ok named

-- the counties of a state with their names by the files that the words name
abbrev pub AreNamedBy : Files → ℕ → CountyWords → List CountyName → Type 0
AreNamedBy files state (Census census) named = AreNamedByCensus files state census named
AreNamedBy files state (People name) named = AreNamedByPeople files state name.now named

-- the counties of the state with their names
abbrev pub AreNamedByFiles : Files → CommonWords → List CountyName → Type 0
AreNamedByFiles files words named = AreNamedBy files words.state words.counties named

-- the counties of the state with their names, if their names are read
abbrev pub AreNamesIf : Bool → Files → CommonWords → Option (List CountyName) → Type 0
AreNamesIf false files words named = Unit {0}
AreNamesIf true files words named =
    (list : List CountyName) × (named ≡ Some list) × AreNamedByFiles files words list

-- The census blocks of a state by the bytes of the geographic header and of segment 1, of which no line is at fault.
pub record AreBlocksOfFiles (files : Files) (state : ℕ) (census : CensusWords) (blocks : List Block) : Type 0 where
  pub geo : List ℕ
  pub segment : List ℕ
  pub geo_is : files census.geo.now ≡ Some geo
  pub segment_is : files census.segment.now ≡ Some segment
  pub faultless : block_list geo segment state ≡ Ok blocks
  pub are : AreBlocks geo segment state blocks

-- The adjacent pairs: those of the rows of the adjacency file between listed counties, and then the links over them.
pub record AreAdjacentByFiles (files : Files) (words : ProblemWords) (listed : List ℕ)
    (pairs : List (ℕ × ℕ)) : Type 0 where
  pub rows : List (ℕ × ℕ)
  pub rows_are : IsReadAs row_list files words.adjacency.now rows
  pub named : List (ℕ × ℕ)
  pub named_are : ArePairs listed rows named
  pub links : List Link
  pub links_are : IsReadAsIfNamed link_list files words.links links
  pub linked : AreLinked named links pairs

-- The problem of the files: its counties, its adjacent pairs and its withdrawn sets are those of the files' bytes, and
-- its chamber and its tolerance are those of the words. Together they have no fault.
pub record IsProblemOfFiles (files : Files) (words : ProblemWords) (v : ProblemValue) : Type 0 where
  pub counties : List County
  pub counties_are : AreCountiesOfFiles files words.common counties
  pub pairs : List (ℕ × ℕ)
  pub pairs_are : AreAdjacentByFiles files words (codes_of counties) pairs
  pub withdrawn : List county.Withdrawn
  pub withdrawn_are : IsReadAsIfNamed withdrawn_list files words.withdrawn withdrawn
  pub faultless : problem_fault counties pairs withdrawn words.common.chamber words.common.tolerance ≡ None
  pub problem : IsProblemOf counties pairs withdrawn words.common.chamber words.common.tolerance v

-- the grouping of a file
abbrev pub IsGroupingOfFile : Files → List ℕ → groups.Grouping → Type 0
IsGroupingOfFile files name grouping = IsReadAs grouping_list files name grouping

-- the assignments of a file
abbrev pub AreAssignmentsOfFile : Files → List ℕ → List Assignment → Type 0
AreAssignmentsOfFile files name lines = IsReadAs assignment_list files name lines

-- The text is the table of these groups: its counties and their names are those of the files' bytes.
pub record IsTableOfFiles (files : Files) (words : ProblemWords) (v : ProblemValue) (grouping : groups.Grouping)
    (text : List ℕ) : Type 0 where
  pub named : List CountyName
  pub named_are : AreNamedByFiles files words.common named
  pub table : text ≡ table_text named v.withdrawn grouping

-- The text is the table of these groupings: its counties and their names are those of the files' bytes.
pub record IsLongTableOfFiles (files : Files) (words : ProblemWords) (v : ProblemValue)
    (groupings : List groups.Grouping) (text : List ℕ) : Type 0 where
  pub named : List CountyName
  pub named_are : AreNamedByFiles files words.common named
  pub table : text ≡ groupings_text named v.withdrawn groupings

-- the grouping of a file, if it is named
abbrev pub IsGroupingIfNamed : Files → Option (Bor (List ℕ)) → Option groups.Grouping → Type 0
IsGroupingIfNamed files None which = which ≡ None
IsGroupingIfNamed files (Some name) which =
    (g : groups.Grouping) × (which ≡ Some g) × IsGroupingOfFile files name.now g
