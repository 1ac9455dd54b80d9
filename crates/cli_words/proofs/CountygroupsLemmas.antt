-- The words that the command `countygroups` takes have the values of the options of a subcommand.
use Rattle.std.proofs.Common.{◌≡◌, ◌≢◌, ◌⊎◌, ◌∙◌, true, false, refl, sym, ap, subst, inl, inr, List, [], ◌∷◌, ◌++◌, Result, IfErr, IfOk}
use Rattle.std.proofs.lemmas.Result.{IfErr-weaker, IfOk-weaker}
use Rattle.std.specs.List.{AllByRecursion}
use Rattle.std.specs.Option.{IsSomeAnd}
use Rattle.clap.specs.Words.{App, FailsBy, HasMatchesOf, IsAmong, app_of, kind_of, subcommand_rows_of, takes}
use Rattle.clap.specs.declared.builder.command.Command.{Command}
use Rattle.clap.specs.declared.error.Error.{Error}
use Rattle.clap.specs.declared.error.kind.ErrorKind.{ErrorKind}
use Rattle.clap.specs.declared.error.kind.ErrorKind.TheVariants.{DisplayHelp, DisplayVersion, OutOfMemory}
use Rattle.clap.specs.declared.parser.matches.ArgMatches.{ArgMatches}
use Rattle.clap.proofs.FaultLemmas.{fails_as}
use Rattle.clap.specs.Walk.{Text, nothing_held}
use Rattle.clap.specs.Simple.{Shape, built, filled, help_rule, is_simple, rows_at, subcommand_of}
use Rattle.clap.specs.Faults.{fault_of, is_simple_and_free, level_fault}
use Rattle.cli_words.specs.Command.{audit_options, census_options, check_options, county_options, countygroups, worker_options, judge_options, list_options, piece_options, share_options, size_options, solve_options}
use Rattle.cli_words.specs.Options.{HasCommand}
use Rattle.cli_words.specs.Words.{EndsAs, EndsBy, faults_of, subcommand_in, takes_words, words_read}
use Rattle.cli_words.specs.declared.end.WordsEnd.{WordsEnd}
use Rattle.cli_words.specs.declared.end.WordsEnd.TheVariants.{Help, Memory, Usage, Version}
use Rattle.cli_words.proofs.HelpLemmas.{IsClear, clear_faults, has_no_help}
use Rattle.cli_words.proofs.KeyLemmas.{All-from_recursion, find-All}
use Rattle.cli_words.proofs.ValueLemmas.{level_values}
use Rattle.cli_words.proofs.EnteredLemmas.{enters_well}

pub is_simple_command : is_simple countygroups ≡ true
unfolding countygroups
is_simple_command = refl

pub is_free_command : is_simple_and_free countygroups ≡ true
unfolding countygroups
is_free_command = refl

needs_subcommand : (built countygroups).top.subcommand_required ≡ true
unfolding countygroups
needs_subcommand = refl

abbrev HasItsCommand : Shape → Type 0
HasItsCommand s = (rest : List Text) → level_fault s [] nothing_held rest false [] ≡ [] → HasCommand (rows_at s rest)

each_has_command : AllByRecursion HasItsCommand (built countygroups).subs
unfolding countygroups
each_has_command =
    (λ rest e. level_values _ rest (county_options ++ solve_options) (filled help_rule ∷ []) e refl refl, (λ rest e. level_values _ rest (county_options ++ check_options) (filled help_rule ∷ []) e refl refl, (λ rest e. level_values _ rest (county_options ++ judge_options) (filled help_rule ∷ []) e refl refl, (λ rest e. level_values _ rest (county_options ++ list_options) (filled help_rule ∷ []) e refl refl, (λ rest e. level_values _ rest (county_options ++ size_options) (filled help_rule ∷ []) e refl refl, (λ rest e. level_values _ rest (census_options ++ audit_options) (filled help_rule ∷ []) e refl refl, (λ rest e. level_values _ rest (county_options ++ share_options) (filled help_rule ∷ []) e refl refl, (λ rest e. level_values _ rest (county_options ++ piece_options) (filled help_rule ∷ []) e refl refl, (λ rest e. level_values _ rest (county_options ++ worker_options) (filled help_rule ∷ []) e refl refl, tt)))))))))

-- words without a fault name a subcommand, with the values of its options
pub has_command : (words : List Text) → faults_of words ≡ [] → IsSomeAnd (subcommand_in words) HasCommand
unfolding faults_of subcommand_in
has_command words none =
    let entered = enters_well countygroups (words_read words) needs_subcommand none in
    let own = (find-All HasItsCommand entered.test (built countygroups).subs entered.shape (All-from_recursion HasItsCommand _ each_has_command) entered.own).1 in
    subst (λ o. IsSomeAnd o HasCommand) (sym entered.is) (own entered.rest entered.sound)

module _ (c : Command) (is : app_of c ≡ countygroups) (words given : List Text) (read : given ≡ words_read words) where
  -- what a parse by the program's command finds in the words as clap reads them
  pub found_in : (r : Result ArgMatches Error) → IfOk r (HasMatchesOf (app_of c) given) → IfOk r (λ m. subcommand_rows_of m ≡ subcommand_in words)
  unfolding subcommand_in
  found_in r h =
      IfOk-weaker r _ _
      (λ m found.
      (found (ap is_simple is ∙ is_simple_command)).1
      ∙ (ap (λ (w : List Text). subcommand_of (app_of c) w) read ∙ ap (λ (a : App). subcommand_of a (words_read words)) is)) h

  pub taken_in : (r : Result ArgMatches Error) → IfErr r (λ e. takes (app_of c) given ≡ true → kind_of e ≡ OutOfMemory)
      → IfErr r (λ e. takes_words words ≡ true → kind_of e ≡ OutOfMemory)
  unfolding takes_words
  taken_in r h =
      IfErr-weaker r _ _
      (λ e passes taken. passes (ap (λ (w : List Text). takes (app_of c) w) read ∙ (ap (λ (a : App). takes a (words_read words)) is ∙ taken))) h

  pub faults_in : (r : Result ArgMatches Error) → (is_simple_and_free (app_of c) ≡ true → FailsBy (fault_of (app_of c) given) r) → FailsBy (faults_of words) r
  unfolding faults_of
  faults_in r h =
      fails_as r _ _ (ap (λ (w : List Text). fault_of (app_of c) w) read ∙ ap (λ (a : App). fault_of a (words_read words)) is)
      (h (ap is_simple_and_free is ∙ is_free_command))

no_help : has_no_help (built countygroups) ≡ true
unfolding countygroups
no_help = refl

help_alone : (words : List Text) → IsClear (faults_of words)
unfolding faults_of
help_alone words = clear_faults countygroups (words_read words) no_help

-- an error of one of the faults ends as it should
pub ends_by : (words : List Text) (k : ErrorKind) (end : WordsEnd) → (k ≡ OutOfMemory) ⊎ IsAmong k (faults_of words) → EndsAs k end → EndsBy (faults_of words) end
ends_by words k (Help text) (inl e) h = let bad : OutOfMemory ≡ DisplayHelp = sym e ∙ h in cc
ends_by words k (Help text) (inr among) h = (help_alone words).alone DisplayHelp (inl refl) (subst (λ (x : ErrorKind). IsAmong x (faults_of words)) h among)
ends_by words k (Version text) (inl e) h = let bad : OutOfMemory ≡ DisplayVersion = sym e ∙ h in cc
ends_by words k (Version text) (inr among) h = (help_alone words).alone DisplayVersion (inr refl) (subst (λ (x : ErrorKind). IsAmong x (faults_of words)) h among)
ends_by words k (Usage text) (inl e) h = absurd (h.2 e)
ends_by words k (Usage text) (inr among) h = (
  λ none. absurd (subst (IsAmong k) none among),
  λ help. other DisplayHelp h.0 (subst (IsAmong k) help among),
  λ version. other DisplayVersion h.1 (subst (IsAmong k) version among),
)
  where
    other : (x : ErrorKind) → (k ≢ x) → (k ≡ x) ⊎ ⊥ → ⊥
    other x not (inl e) = not e
    other x not (inr e) = e
ends_by words k Memory fits h = tt
