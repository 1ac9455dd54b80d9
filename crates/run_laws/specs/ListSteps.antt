-- The steps of `list`: the problem is built, a grouping whose number is asked for and the certificate are loaded, and
-- all best groupings are listed by it. One of them may be stored, and the table of all.
use Rattle.std.specs.Prelude.{◌≡◌, ℕ, zero, suc, List, ◌++◌, Option, Some, None, codes, decimal, map, option_map}
use Rattle.std.specs.Prelude.{slice_get}
use Rattle.std.specs.Borrow.{Bor}
use Rattle.county_problem.specs.ProblemValue.{ProblemValue, problem_of}
use Rattle.grouping_table.specs.GroupingsTable.{groupings_text}
use Rattle.grouping_laws.specs.Grouping.{Grouping}
use Rattle.pl94_counties.specs.CountyNames.{CountyName}
use Rattle.grouping_report.specs.GroupingText.{grouping_text}
use Rattle.grouping_report.specs.declared.outcome.Outcome.TheVariants as outcome
use Rattle.list_groupings.specs.declared.gap.Gap.{Gap}
use Rattle.list_groupings.specs.declared.gap.Gap.TheVariants.{CountiesLeft, SeatsOff}
use Rattle.list_groupings.specs.declared.listing.Listing.{Listing}
use Rattle.list_groupings.specs.declared.listing.Listing.TheVariants.{All, Open, Impossible, No, Budget}
use Rattle.list_groupings.specs.Answers.{IsListing, ListsAllBest}
use Rattle.list_groupings.specs.Walking.{sets_held}
use Rattle.list_report.specs.Listing.{listing_text}
use Rattle.list_report.specs.ListingObject.{listing_json}
use Rattle.cli_words.specs.declared.words.ListWords.{ListWords}
use Rattle.cli_file_stores.specs.Files.{NamedFile, Files}
use Rattle.cli_file_stores.specs.History.{History}
use Rattle.cli_answers.specs.Answer.{Answered, success, budget_answer}
use Rattle.cli_answers.specs.CheckLines.{no_answer}
use Rattle.run_laws.specs.Forms.{line_in, outcome_in, reads_names, with_names}
use Rattle.run_laws.specs.Steps.{Steps, ◌>>=◌, load_step, optional_step, value_step}
use Rattle.run_laws.specs.ProblemSteps.{grouping_of}
use Rattle.run_laws.specs.TableSteps.{Tabled, tabled_problem_in}
use Rattle.run_laws.specs.Storing.{EndsStoring, named_file}
use Rattle.run_laws.specs.WhichGrouping.{number_in_list, number_line, number_status}
use Rattle.cli_words.specs.declared.words.Form.{Form}
use Rattle.cli_words.specs.declared.words.Form.TheVariants.{Codes, Names, Object}

-- the word of why a certificate doesn't show which other groupings are best
abbrev pub gap_word : Gap → List ℕ
gap_word CountiesLeft = codes "CountiesLeft"
gap_word SeatsOff = codes "SeatsOff"

-- `open KIND line L`
unfoldable pub open_line : Gap → ℕ → List ℕ
open_line gap line = codes "open " ++ gap_word gap ++ codes " line " ++ decimal line ++ codes "\n"

-- the answer where it doesn't, with exit status 3
abbrev pub open_answer : Gap → ℕ → Answered
open_answer gap line = record { text = open_line gap line; status = 3 }

-- the answer where no grouping of the number is listed
abbrev pub no_such_grouping : Answered
no_such_grouping = record { text = codes "no such grouping\n"; status = 4 }

-- what `list` is asked for: the number of the grouping that is to be stored, and the grouping whose number is to be
-- told
pub record Asked : Type 0 where
  pub number : Option ℕ
  pub which : Option Grouping

-- what `list` says, and the texts for its files: those of the grouping of a number, and of the table of all groupings
pub record Listed : Type 0 where
  pub answer : Answered
  pub grouping : Option (List ℕ)
  pub table : Option (List ℕ)

-- the grouping of a number, which counts from 1
abbrev pub grouping_numbered : List Grouping → ℕ → Option Grouping
grouping_numbered groupings zero = None
grouping_numbered groupings (suc n) = slice_get groupings n

-- the lines of the listing; if the number of a grouping is asked for, it stands behind the listing
abbrev pub listing_lines : ProblemValue → List Grouping → Option (Option ℕ) → List ℕ
listing_lines v groupings None = listing_text v groupings
listing_lines v groupings (Some number) = listing_text v groupings ++ number_line number

-- the listing in its form
abbrev pub listing_in : Form → ProblemValue → Option (List CountyName) → List Grouping → Option (Option ℕ) → List ℕ
listing_in Codes v named groupings number = listing_lines v groupings number
listing_in Names v named groupings number = with_names named (listing_lines v groupings number)
listing_in Object v named groupings number = listing_json v named groupings number

-- the listing, and the status of the number
abbrev pub with_number : Form → ProblemValue → Option (List CountyName) → List Grouping → Option ℕ → Answered
with_number form v named groupings number =
    record { text = listing_in form v named groupings (Some number); status = number_status number }

-- the answer: the listing, with the number of a grouping if that is asked for
abbrev pub listing_answer : Form → ProblemValue → Option (List CountyName) → List Grouping → Option Grouping → Answered
listing_answer form v named groupings None = success (listing_in form v named groupings None)
listing_answer form v named groupings (Some g) = with_number form v named groupings (number_in_list g groupings)

-- the table of all listed groupings, if the counties have names
abbrev pub table_of_all : Tabled → List Grouping → Option (List ℕ)
table_of_all t groupings = option_map (λ named. groupings_text named t.problem.withdrawn groupings) t.named

-- the answer, and the texts of the files
abbrev pub listed_all : Form → Tabled → List Grouping → Option Grouping → Option (List ℕ) → Listed
listed_all form t groupings which grouping = record {
  answer = listing_answer form t.problem t.named groupings which;
  grouping = grouping;
  table = table_of_all t groupings;
}

-- an answer, and no file
abbrev pub said_alone : Answered → Listed
said_alone a = record { answer = a; grouping = None; table = None }

-- the listing, and the lines of the grouping that is to be stored; if there is no such grouping, that alone is said
abbrev pub listed_with : Form → Tabled → List Grouping → Option Grouping → Option Grouping → Listed
listed_with form t groupings which None = said_alone no_such_grouping
listed_with form t groupings which (Some g) = listed_all form t groupings which (Some (grouping_text g))

-- the listing of all best groupings, where the number of one to store may be given
abbrev pub listed_by_number : Form → Tabled → List Grouping → Option Grouping → Option ℕ → Listed
listed_by_number form t groupings which None = listed_all form t groupings which None
listed_by_number form t groupings which (Some number) =
    listed_with form t groupings which (grouping_numbered groupings number)

-- What is said of a listing: all best groupings; that the certificate doesn't show them, with status 3; else what
-- `check` says.
abbrev pub listing_said : Form → Tabled → Asked → Listing → Listed
listing_said form t asked (All list) = listed_by_number form t (map sets_held list.items) asked.which asked.number
listing_said form t asked (Open gap line) = said_alone (line_in form (open_answer gap line))
listing_said form t asked Impossible =
    said_alone (record { text = outcome_in form t.problem t.named outcome.Impossible; status = 1 })
listing_said form t asked (No fault line) = said_alone (line_in form (no_answer fault line))
listing_said form t asked Budget = said_alone (line_in form budget_answer)

-- what `list` says of a text is the listing that it gives with such a budget
pub record IsListAnswer (form : Form) (t : Tabled) (budget : ℕ) (asked : Asked) (text : List ℕ) (s : Listed) : Type 0 where
  pub listing : Listing
  pub is : IsListing (problem_of t.problem) text budget listing
  pub all : ListsAllBest (problem_of t.problem) listing
  pub said : s ≡ listing_said form t asked listing

-- the grouping whose number is asked for, if its file is named
abbrev pub which_of : Option Files → Option (Bor (List ℕ)) → Steps (Option Grouping)
which_of files name =
    optional_step None (λ file. grouping_of files file >>= λ g. value_step (λ held. held ≡ Some g)) name

-- what `list` is asked for, by its words and the grouping of the file that they may name
abbrev pub asked_by : ListWords → Option Grouping → Asked
asked_by words which = record { number = option_map (λ w. w.number) words.stored; which = which }

-- `list`: the problem is built, the grouping whose number is asked for is loaded, and then the certificate
abbrev pub list_steps : Option Files → ListWords → Steps Listed
list_steps files words =
    tabled_problem_in files words.check.problem (reads_names words.check.problem.common words.groupings)
    >>= λ t. which_of files words.which
    >>= λ which. load_step files words.check.certificate.now
    >>= λ text. value_step (IsListAnswer words.check.problem.common.form t words.check.budget (asked_by words which) text)

-- the files that are stored: the grouping of the number, and the table of all groupings
abbrev pub listed_files : ListWords → Listed → List NamedFile
listed_files words s =
    named_file (option_map (λ w. w.out) words.stored) s.grouping ++ named_file words.groupings s.table

-- `list` ends: at a fault that it met before anything was stored, or with its files stored and its answer, unless a
-- file was refused
abbrev pub ListEnds : Option Files → ListWords → History → History → List NamedFile → Answered → Type 0
ListEnds files words = EndsStoring (list_steps files words) (listed_files words) (λ s. s.answer)
