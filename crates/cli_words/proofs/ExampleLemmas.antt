-- What the definitions of `specs/Words.antt` say of words that are written out.
use Rattle.std.proofs.Common.{◌≡◌, ℕ, true, false, refl, inl, inr, List, [], ◌∷◌, ◌++◌, Some, None, codes, option_map}
use Rattle.clap.specs.Words.{Text, first_of}
use Rattle.clap.specs.Takes.{is_given}
use Rattle.clap.specs.declared.error.kind.ErrorKind.TheVariants as kind
use Rattle.clap.proofs.OnLiterals.{clap_on_literals}
use Rattle.cli_words.specs.Command.{countygroups}
use Rattle.cli_words.specs.Tolerance.{least_whole, tolerance_in}
use Rattle.cli_words.specs.Words.{HaveOptionsFault, faults_of, subcommand_in, takes_words}
use Rattle.cli_words.specs.declared.end.OptionsFault.TheVariants.{CountyFiles, PeopleAndCensus, Tolerance as NoTolerance, ToleranceAndPart}
use Rattle.cli_words.proofs.TogetherLemmas.{differ}

abbrev files : List Text
files = codes "size" ∷ codes "--geo" ∷ codes "a" ∷ codes "--segment=b" ∷ []

taken : takes_words (files ++ codes "--chamber" ∷ codes "120" ∷ []) ≡ true
unfolding clap_on_literals countygroups takes_words
taken = refl

signed : takes_words (files ++ codes "--chamber" ∷ codes "+4" ∷ codes "--state=0" ∷ []) ≡ true
unfolding clap_on_literals countygroups takes_words
signed = refl

default_state : option_map (λ p. first_of (codes "state") p.1) (subcommand_in (files ++ codes "--chamber" ∷ codes "120" ∷ [])) ≡ Some (Some (codes "37"))
unfolding clap_on_literals countygroups subcommand_in
default_state = refl

-- the file of the people in place of the census files, or beside them
abbrev of_people : List Text
of_people = codes "size" ∷ codes "--people" ∷ codes "p" ∷ codes "--chamber=120" ∷ []

people : option_map (λ p. first_of (codes "people") p.1) (subcommand_in of_people) ≡ Some (Some (codes "p"))
unfolding clap_on_literals countygroups subcommand_in
people = refl

both_files : HaveOptionsFault (of_people ++ codes "--geo=a" ∷ [])
unfolding clap_on_literals countygroups subcommand_in
both_files = (PeopleAndCensus, (differ (codes "size") (codes "audit") refl, (refl, inl refl)))

one_census_file : HaveOptionsFault (codes "size" ∷ codes "--geo=a" ∷ codes "--chamber=120" ∷ [])
unfolding clap_on_literals countygroups subcommand_in
one_census_file = (CountyFiles, (differ (codes "size") (codes "audit") refl, (refl, inr refl)))

no_files : HaveOptionsFault (codes "size" ∷ codes "--chamber=120" ∷ [])
unfolding clap_on_literals countygroups subcommand_in
no_files = (CountyFiles, (differ (codes "size") (codes "audit") refl, (refl, inl refl)))

-- `audit` without a census file, and with the file of the people beside both
abbrev audited : List Text
audited = codes "audit" ∷ codes "--people=p" ∷ codes "--geo=a" ∷ codes "--chamber=50" ∷ codes "--adjacency=c" ∷ codes "--grouping=d" ∷ codes "--assignments=e" ∷ []

audit_of_people : faults_of audited ≡ kind.MissingRequiredArgument ∷ []
unfolding clap_on_literals countygroups faults_of
audit_of_people = refl

audit_of_all : takes_words (audited ++ codes "--segment=b" ∷ []) ≡ true
unfolding clap_on_literals countygroups takes_words
audit_of_all = refl

-- a tolerance of which only the whole is given, or neither number
default_part : option_map (λ p. first_of (codes "part") p.1) (subcommand_in (files ++ codes "--chamber" ∷ codes "120" ∷ codes "--of=10" ∷ [])) ≡ Some (Some (codes "1"))
unfolding clap_on_literals countygroups subcommand_in
default_part = refl

default_whole : option_map (λ p. first_of (codes "of") p.1) (subcommand_in (files ++ codes "--chamber" ∷ codes "120" ∷ [])) ≡ Some (Some (codes "20"))
unfolding clap_on_literals countygroups subcommand_in
default_whole = refl

-- a part of more than half of the whole is no fault of the words, but a number out of its range is
greatest_tolerance : takes_words (files ++ codes "--chamber=120" ∷ codes "--part=500" ∷ codes "--of" ∷ codes "1" ∷ []) ≡ true
unfolding clap_on_literals countygroups takes_words
greatest_tolerance = refl

too_great_part : faults_of (files ++ codes "--chamber=120" ∷ codes "--part=501" ∷ []) ≡ kind.ValueValidation ∷ []
unfolding clap_on_literals countygroups faults_of
too_great_part = refl

no_whole : faults_of (files ++ codes "--chamber=120" ∷ codes "--of=0" ∷ []) ≡ kind.ValueValidation ∷ []
unfolding clap_on_literals countygroups faults_of
no_whole = refl

no_fault : faults_of (files ++ codes "--chamber" ∷ codes "120" ∷ []) ≡ []
unfolding clap_on_literals countygroups faults_of
no_fault = refl

missing : faults_of files ≡ kind.MissingRequiredArgument ∷ []
unfolding clap_on_literals countygroups faults_of
missing = refl

no_seats : faults_of (files ++ codes "--chamber" ∷ codes "0" ∷ []) ≡ kind.ValueValidation ∷ []
unfolding clap_on_literals countygroups faults_of
no_seats = refl

-- only the program itself has a version
version_of_size : faults_of (codes "size" ∷ codes "--version" ∷ []) ≡ kind.UnknownArgument ∷ []
unfolding clap_on_literals countygroups faults_of
version_of_size = refl

-- `judge` with and without the optional files
abbrev judged : List Text
judged = codes "judge" ∷ codes "--geo=a" ∷ codes "--segment=b" ∷ codes "--chamber=50" ∷ codes "--adjacency=c" ∷ codes "--grouping=d" ∷ []

no_links : option_map (λ p. is_given (codes "links") p.1) (subcommand_in judged) ≡ Some false
unfolding clap_on_literals countygroups subcommand_in
no_links = refl

links : option_map (λ p. first_of (codes "links") p.1) (subcommand_in (judged ++ codes "--links" ∷ codes "e" ∷ [])) ≡ Some (Some (codes "e"))
unfolding clap_on_literals countygroups subcommand_in
links = refl

no_words : faults_of [] ≡ kind.MissingSubcommand ∷ []
unfolding clap_on_literals countygroups faults_of
no_words = refl

help : faults_of (codes "--help" ∷ []) ≡ kind.DisplayHelp ∷ []
unfolding clap_on_literals countygroups faults_of
help = refl

help_alone : faults_of (codes "help" ∷ []) ≡ kind.DisplayHelp ∷ []
unfolding clap_on_literals countygroups faults_of
help_alone = refl

help_of_a_subcommand : faults_of (codes "help" ∷ codes "size" ∷ []) ≡ kind.UnknownArgument ∷ kind.InvalidSubcommand ∷ []
unfolding clap_on_literals countygroups faults_of
help_of_a_subcommand = refl

version : faults_of (codes "--version" ∷ []) ≡ kind.DisplayVersion ∷ []
unfolding clap_on_literals countygroups faults_of
version = refl

help_of_size : faults_of (codes "size" ∷ codes "-h" ∷ []) ≡ kind.DisplayHelp ∷ []
unfolding clap_on_literals countygroups faults_of
help_of_size = refl

-- `solve` with the steps that it has where none are given, with the most, and with one more than the most
abbrev solved : List Text
solved = codes "solve" ∷ codes "--geo=a" ∷ codes "--segment=b" ∷ codes "--chamber=50" ∷ codes "--adjacency=c" ∷ []

default_steps : option_map (λ p. first_of (codes "steps") p.1) (subcommand_in solved) ≡ Some (Some (codes "10000000"))
unfolding clap_on_literals countygroups subcommand_in
default_steps = refl

most_steps : takes_words (solved ++ codes "--steps=18446744073709551615" ∷ []) ≡ true
unfolding clap_on_literals countygroups takes_words
most_steps = refl

too_many_steps : faults_of (solved ++ codes "--steps=18446744073709551616" ∷ []) ≡ kind.ValueValidation ∷ []
unfolding clap_on_literals countygroups faults_of
too_many_steps = refl

-- `check` without a certificate
no_certificate : faults_of (codes "check" ∷ codes "--geo=a" ∷ codes "--segment=b" ∷ codes "--chamber=50" ∷ codes "--adjacency=c" ∷ []) ≡ kind.MissingRequiredArgument ∷ []
unfolding clap_on_literals countygroups faults_of
no_certificate = refl

-- `share` without a depth, and with one
abbrev shared : List Text
shared = codes "share" ∷ codes "--geo=a" ∷ codes "--segment=b" ∷ codes "--chamber=50" ∷ codes "--adjacency=c" ∷ codes "--grouping=d" ∷ []

no_events : faults_of shared ≡ kind.MissingRequiredArgument ∷ []
unfolding clap_on_literals countygroups faults_of
no_events = refl

wide : option_map (λ p. is_given (codes "depth") p.1) (subcommand_in (shared ++ codes "--events=e" ∷ [])) ≡ Some false
unfolding clap_on_literals countygroups subcommand_in
wide = refl

greatest_depth : takes_words (shared ++ codes "--events=e" ∷ codes "--limit=65535" ∷ codes "--depth=255" ∷ []) ≡ true
unfolding clap_on_literals countygroups takes_words
greatest_depth = refl

too_deep : faults_of (shared ++ codes "--events=e" ∷ codes "--depth=256" ∷ []) ≡ kind.ValueValidation ∷ []
unfolding clap_on_literals countygroups faults_of
too_deep = refl

-- `worker` with the steps that it has where none are given, and with a grouping
worker_steps : option_map (λ p. first_of (codes "steps") p.1) (subcommand_in (codes "worker" ∷ codes "--geo=a" ∷ codes "--segment=b" ∷ codes "--chamber=50" ∷ codes "--adjacency=c" ∷ []))
    ≡ Some (Some (codes "10000000"))
unfolding clap_on_literals countygroups subcommand_in
worker_steps = refl

worker_with_grouping : faults_of (codes "worker" ∷ codes "--geo=a" ∷ codes "--segment=b" ∷ codes "--chamber=50" ∷ codes "--adjacency=c" ∷ codes "--grouping=d" ∷ [])
    ≡ kind.UnknownArgument ∷ []
unfolding clap_on_literals countygroups faults_of
worker_with_grouping = refl

-- `piece` without the number of the piece
no_number : faults_of (codes "piece" ∷ codes "--geo=a" ∷ codes "--segment=b" ∷ codes "--chamber=50" ∷ codes "--adjacency=c" ∷ codes "--grouping=d" ∷ codes "--round=1" ∷ [])
    ≡ kind.MissingRequiredArgument ∷ []
unfolding clap_on_literals countygroups faults_of
no_number = refl

-- `--names` at `solve` and at `size`, which doesn't have it
names : option_map (λ p. first_of (codes "names") p.1) (subcommand_in (solved ++ codes "--names" ∷ [])) ≡ Some (Some (codes "true"))
unfolding clap_on_literals countygroups subcommand_in
names = refl

names_of_size : faults_of (files ++ codes "--chamber=120" ∷ codes "--names" ∷ []) ≡ kind.UnknownArgument ∷ []
unfolding clap_on_literals countygroups faults_of
names_of_size = refl

-- a tolerance beside its part, and one whose text writes none
beside_part : HaveOptionsFault (files ++ codes "--chamber=120" ∷ codes "--tolerance=5%" ∷ codes "--part=1" ∷ [])
unfolding clap_on_literals countygroups subcommand_in
beside_part = (ToleranceAndPart, (refl, inl refl))

not_written : HaveOptionsFault (files ++ codes "--chamber=120" ∷ codes "--tolerance=five" ∷ [])
unfolding clap_on_literals countygroups subcommand_in tolerance_in least_whole
not_written = (NoTolerance, (refl, refl))

-- ---- the tolerances that texts write

abbrev writes : Text → ℕ → ℕ → Type 0
writes text part whole = tolerance_in text ≡ Some (record { numerator = part; denominator = whole })

abbrev writes_none : Text → Type 0
writes_none text = tolerance_in text ≡ None

percent : writes (codes "5%") 1 20
unfolding tolerance_in least_whole
percent = refl

half_percent : writes (codes "4.5%") 9 200
unfolding tolerance_in least_whole
half_percent = refl

decimal : writes (codes "0.045") 9 200
unfolding tolerance_in least_whole
decimal = refl

fraction : writes (codes "1/20") 1 20
unfolding tolerance_in least_whole
fraction = refl

not_in_lowest_terms : writes (codes "2/40") 1 20
unfolding tolerance_in least_whole
not_in_lowest_terms = refl

zero : writes (codes "0") 0 1
unfolding tolerance_in least_whole
zero = refl

-- more than a half is no fault of the words, as at `--part` and `--of`
more_than_all : writes (codes "101%") 101 100
unfolding tolerance_in least_whole
more_than_all = refl

-- the part is at most 500, and the whole at most 1,000
great_part : writes_none (codes "501%")
unfolding tolerance_in least_whole
great_part = refl

great_whole : writes_none (codes "1/1001")
unfolding tolerance_in least_whole
great_whole = refl

no_denominator : writes_none (codes "1/0")
unfolding tolerance_in least_whole
no_denominator = refl

blank : writes_none (codes "5 %")
unfolding tolerance_in least_whole
blank = refl

empty : writes_none []
unfolding tolerance_in least_whole
empty = refl

negative : writes_none (codes "-1/20")
unfolding tolerance_in least_whole
negative = refl

no_digit_before_the_point : writes_none (codes ".05")
unfolding tolerance_in least_whole
no_digit_before_the_point = refl

percent_of_a_fraction : writes_none (codes "1/20%")
unfolding tolerance_in least_whole
percent_of_a_fraction = refl

nine_digits : writes (codes "000000001/000000020") 1 20
unfolding tolerance_in least_whole
nine_digits = refl

ten_digits : writes_none (codes "0000000001/20")
unfolding tolerance_in least_whole
ten_digits = refl
