-- The command `countygroups`, as clap reads it.
use Rattle.std.specs.Prelude.{◌≡◌, ◌++◌, ℕ, true, false, fold, List, [], ◌∷◌, Some, Result, IfOk, codes, pos}
use Rattle.clap.specs.Words.{App, Rule, Shape, Text, app_of, new_app, new_rule, rule_of, shape_of, with_rule, with_subcommand}
use Rattle.clap.specs.Simple.{new_shape}
use Rattle.clap.specs.declared.builder.action.ArgAction.TheVariants.{Set, SetTrue}
use Rattle.clap.specs.declared.builder.arg.Arg.{Arg}
use Rattle.clap.specs.declared.builder.command.Command.{Command}
use Rattle.clap.specs.declared.builder.command.Command.TheViews.{out-Command}
use Rattle.clap.specs.declared.builder.value_parser.ValueParser.TheVariants.{Signed, Unsigned}

-- `--name VALUE`
abbrev pub text_option : Text → Rule
text_option name = record (new_rule name) { long = Some name; action = Some Set; value_names = 1 }

-- `--name`, which has no value
abbrev pub flag_option : Text → Rule
flag_option name = record (new_rule name) { long = Some name; action = Some SetTrue }

-- `--json`
abbrev pub json_option : Rule
json_option = flag_option (codes "json")

-- `--names`
abbrev pub names_option : Rule
names_option = flag_option (codes "names")

-- the option, which must be given
abbrev pub required : Rule → Rule
required option = record option { required = true }

-- the option, of a number from low to high
abbrev pub of_number : ℕ → ℕ → Rule → Rule
of_number low high option = record option { parser = Some (Signed (pos low) (pos high)) }

-- the option, with the value that it has where it is not given
abbrev pub with_default : Text → Rule → Rule
with_default text option = record option { defaults = text ∷ [] }

-- the option, of a number of steps from 0 to 18,446,744,073,709,551,615, by default 10,000,000
abbrev pub of_steps : Rule → Rule
of_steps option = with_default (codes "10000000") (record option { parser = Some (Unsigned 0 18446744073709551615) })

-- `--chamber SEATS`, which must be given
abbrev pub chamber_option : Rule
chamber_option = of_number 1 1000 (required (text_option (codes "chamber")))

-- `--state CODE`, by default 37
abbrev pub state_option : Rule
state_option = with_default (codes "37") (of_number 0 99 (text_option (codes "state")))

-- `--tolerance TOLERANCE`, the tolerance as a fraction, a decimal or a percentage, which need not be given
abbrev pub tolerance_option : Rule
tolerance_option = text_option (codes "tolerance")

-- `--part PART`, the part of the tolerance, by default 1
abbrev pub part_option : Rule
part_option = with_default (codes "1") (of_number 0 500 (text_option (codes "part")))

-- `--of OF`, the whole of the tolerance, by default 20
abbrev pub whole_option : Rule
whole_option = with_default (codes "20") (of_number 1 1000 (text_option (codes "of")))

-- `--name NUMBER`
abbrev pub number_option : Text → Rule
number_option name = of_number 0 4294967295 (text_option name)

-- `--limit COUNTIES`, the limit of a board's first round
abbrev pub limit_option : Rule
limit_option = of_number 0 65535 (text_option (codes "limit"))

-- `--depth BRANCHINGS`, how many branchings stand above a board's pieces at most
abbrev pub depth_option : Rule
depth_option = of_number 0 255 (text_option (codes "depth"))

-- the options of the files that give the counties, of which none need be given: the two census files and the file of
-- the people
abbrev pub county_options : List Rule
county_options = text_option (codes "geo") ∷ text_option (codes "segment") ∷ text_option (codes "people") ∷ []

-- those options where the blocks are read, too: both census files must be given
abbrev pub census_options : List Rule
census_options =
    required (text_option (codes "geo")) ∷ required (text_option (codes "segment")) ∷ text_option (codes "people") ∷ []

-- the options of each subcommand that need no further file: the number of seats, the state, the tolerance, and the two
-- numbers that give it where `--tolerance` doesn't
abbrev pub common_options : List Rule
common_options = chamber_option ∷ state_option ∷ tolerance_option ∷ part_option ∷ whole_option ∷ []

-- the options that give a problem, but for the files of the counties: those of each subcommand, the file of adjacency,
-- and those of links and of withdrawn sets, which need not be given
abbrev pub problem_options : List Rule
problem_options = common_options ++ required (text_option (codes "adjacency")) ∷ text_option (codes "links")
    ∷ text_option (codes "withdrawn") ∷ []

-- the options that give a problem and the file of a grouping
abbrev pub grouping_options : List Rule
grouping_options = problem_options ++ required (text_option (codes "grouping")) ∷ []

-- the options that give a problem and the file of a certificate
abbrev pub certificate_options : List Rule
certificate_options = problem_options ++ required (text_option (codes "certificate")) ∷ []

-- In the options of each subcommand the files that are read come first, then those that are written, which need not be
-- given, and then what bounds a search. The last of the files that are written is that of the record. Where an answer
-- can be an object of JSON, `--json` comes behind it, and then `--names` where a text has lists of counties.

-- the options of `solve`: those that give a problem, the files of the certificate, of the grouping, of the table, of
-- the events and of the record, and the most steps of the search
abbrev pub solve_options : List Rule
solve_options =
    problem_options
    ++ text_option (codes "certificate") ∷ text_option (codes "out") ∷ text_option (codes "table")
    ∷ text_option (codes "events") ∷ text_option (codes "record") ∷ json_option ∷ names_option
    ∷ of_steps (text_option (codes "steps")) ∷ []

-- the options of `check`: those that give a certificate, the files of the table and of the record, and the most steps
-- of the checker
abbrev pub check_options : List Rule
check_options =
    certificate_options
    ++ text_option (codes "table") ∷ text_option (codes "record") ∷ json_option ∷ names_option
    ∷ of_steps (text_option (codes "budget")) ∷ []

-- the options of `judge`: those that give a problem and a grouping, the file of a certificate, which need not be given,
-- the files of the table and of the record, and the most steps of the certificate's checker
abbrev pub judge_options : List Rule
judge_options =
    grouping_options
    ++ text_option (codes "certificate") ∷ text_option (codes "table") ∷ text_option (codes "record") ∷ json_option
    ∷ names_option ∷ of_steps (text_option (codes "budget")) ∷ []

-- the options of `list`: those that give a certificate, the file of a grouping whose number is asked for, which need
-- not be given, the number of a listed grouping and the file that it is written to, which need not be given either, the
-- files of the table of all listed groupings and of the record, and the most steps of the checker
abbrev pub list_options : List Rule
list_options =
    certificate_options
    ++ text_option (codes "which") ∷ number_option (codes "number") ∷ text_option (codes "out")
    ∷ text_option (codes "groupings") ∷ text_option (codes "record") ∷ json_option ∷ names_option
    ∷ of_steps (text_option (codes "budget")) ∷ []

-- the options of `size`: those of each subcommand, and the file of the record
abbrev pub size_options : List Rule
size_options = common_options ++ text_option (codes "record") ∷ json_option ∷ []

-- the options of `audit`: those that give a problem and a grouping, the file of the assignments, and the files of the
-- table of the districts and of the record
abbrev pub audit_options : List Rule
audit_options =
    grouping_options
    ++ required (text_option (codes "assignments")) ∷ text_option (codes "districts") ∷ text_option (codes "record")
    ∷ json_option ∷ []

-- the options of `share`: those that give a problem and a grouping, the file of the events, the files of the
-- certificate and of the record, the limit of the board's first round in counties and how many branchings stand above
-- its pieces at most, which need not be given, and the most steps of a test
abbrev pub share_options : List Rule
share_options =
    grouping_options
    ++ required (text_option (codes "events")) ∷ text_option (codes "certificate") ∷ text_option (codes "record")
    ∷ limit_option ∷ depth_option ∷ of_steps (text_option (codes "budget")) ∷ []

-- the options of `piece`: those that give a problem and a grouping, the file of the events, which need not be given,
-- the file of the record, the limit of the board's first round in counties and how many branchings stand above its
-- pieces at most, which need not be given, the round and the number of a piece, and the most steps of the search
abbrev pub piece_options : List Rule
piece_options =
    grouping_options
    ++ text_option (codes "events") ∷ text_option (codes "record") ∷ limit_option ∷ depth_option
    ∷ required (number_option (codes "round")) ∷ required (number_option (codes "number"))
    ∷ of_steps (text_option (codes "steps")) ∷ []

-- the options of `worker`: those that give a problem, the file of the record, and the most steps of the search of a
-- piece
abbrev pub worker_options : List Rule
worker_options =
    problem_options ++ text_option (codes "record") ∷ of_steps (text_option (codes "steps")) ∷ []

-- a subcommand with these options
abbrev pub subcommand : Text → List Rule → Shape
subcommand name options = record (new_shape name) { rules = options }

-- a subcommand with the options of the counties, and these
abbrev pub with_counties : Text → List Rule → Shape
with_counties name options = subcommand name (county_options ++ options)

-- the subcommands of the program: those for every day, and those that share a proof
abbrev pub subcommands : List Shape
subcommands = with_counties (codes "solve") solve_options ∷ with_counties (codes "check") check_options
    ∷ with_counties (codes "judge") judge_options ∷ with_counties (codes "list") list_options
    ∷ with_counties (codes "size") size_options ∷ subcommand (codes "audit") (census_options ++ audit_options)
    ∷ with_counties (codes "share") share_options ∷ with_counties (codes "piece") piece_options
    ∷ with_counties (codes "worker") worker_options ∷ []

-- the program without its subcommands: it has no option of its own but help and the version, and requires a subcommand
abbrev pub countygroups_alone : App
countygroups_alone = record {
  top = record (new_shape (codes "countygroups")) {
    no_binary_name = true;
    disable_help_subcommand = true;
    has_version = true;
    subcommand_required = true;
  };
  subs = [];
}

-- the program, with its subcommands in turn
unfoldable pub countygroups : App
countygroups = fold with_subcommand countygroups_alone subcommands

-- `new` is `old` with these options added in turn
pub record HasMore (old : Command) (options : List Rule) (new : Command) : Type 0 where
  pub app : app_of new ≡ fold with_rule (app_of old) options
  pub local : (out-Command new).has_globals ≡ (out-Command old).has_globals

-- the command has this name, and nothing else that a parse reads
pub record IsBare (name : Text) (command : Command) : Type 0 where
  pub app : app_of command ≡ new_app name
  pub local : (out-Command command).has_globals ≡ false

-- the command is a subcommand of this shape, and none of its options is global
pub record HasShape (command : Command) (like : Shape) : Type 0 where
  pub shape : shape_of command ≡ like
  pub local : (out-Command command).has_globals ≡ false

-- what a command that was made has more than an old one, the new one has too, and this option, which is not global
abbrev pub AddsOption : {E : Type 0} → Result Command E → Arg → Result Command E → Type 0
AddsOption made option new =
    (old : Command) (options : List Rule) (r : Rule) → IfOk made (HasMore old options) → rule_of option ≡ r
    → option.global ≡ false → IfOk new (HasMore old (options ++ r ∷ []))

-- a program that was made, with one more subcommand that was made
abbrev pub AddsCommand : {E : Type 0} → Result Command E → Result Command E → Result Command E → Type 0
AddsCommand program command new =
    (a : App) (s : Shape) → IfOk program (λ p. app_of p ≡ a) → IfOk command (λ c. HasShape c s)
    → IfOk new (λ p. app_of p ≡ with_subcommand a s)
