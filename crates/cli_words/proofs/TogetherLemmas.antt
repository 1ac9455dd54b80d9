-- Which options each subcommand has, and that the options of a command go together.
use Rattle.std.proofs.Common.{◌≡◌, ◌≢◌, ◌⊎◌, ◌∙◌, false, refl, sym, subst, inl, inr, List, ◌++◌, Option, Some, None, Result, Ok, Err, MatchResult, codes, take, drop, true≢false}
use Rattle.std.specs.List.{AllByRecursion, find}
use Rattle.std.specs.Option.{IsSomeAnd}
use Rattle.std.specs.Str.{bytes_eq}
use Rattle.std.proofs.lemmas.Slice.Eq.{bytes_eq-Decides}
use Rattle.clap.specs.Words.{Row, Shape, Text}
use Rattle.county_codes.specs.declared.tolerance.Tolerance.{Tolerance}
use Rattle.cli_words.specs.Command.{audit_options, census_options, check_options, common_options, county_options, judge_options, list_options, piece_options, share_options, size_options, solve_options, subcommands, text_option, worker_options}
use Rattle.cli_words.specs.Options.{HasCommand, HasItsValue, HasValues}
use Rattle.cli_words.specs.Words.{AreUnpaired, AskAndStore, GivesCountiesOnce, GivesPeopleAndCensus, GivesRoundWords, GivesStored, GivesText, GivesToleranceOnce, HasOptionsFault, IsOptionsFault, LacksCountyFiles, LacksLimit, SaysAudit, SaysBoard, SaysCommand, SaysList, SaysOptions}
use Rattle.cli_words.specs.declared.words.AuditWords.{AuditWords}
use Rattle.cli_words.specs.declared.words.BoardWords.{BoardWords}
use Rattle.cli_words.specs.declared.words.CommandWords.{CommandWords}
use Rattle.cli_words.specs.declared.words.CommandWords.TheVariants.{Audit, Check, Judge, List as ListCommand, Piece, Share, Size, Solve, Worker}
use Rattle.cli_words.specs.declared.words.CountyWords.{CountyWords}
use Rattle.cli_words.specs.declared.words.ListWords.{ListWords}
use Rattle.cli_words.specs.declared.words.RoundWords.{RoundWords}
use Rattle.cli_words.specs.declared.words.RoundWords.TheVariants.{Plain, Wide}
use Rattle.cli_words.specs.declared.words.StoredWords.{StoredWords}
use Rattle.cli_words.specs.declared.end.OptionsFault.{OptionsFault}
use Rattle.cli_words.specs.declared.end.OptionsFault.TheVariants.{CountyFiles, Depth, NumberOrOut, PeopleAndCensus, Tolerance as NoTolerance, ToleranceAndPart, WhichAndStored}
use Rattle.cli_words.proofs.KeyLemmas.{All-from_recursion, find-All}
use Rattle.cli_words.proofs.ReadLemmas.{behind_values, front_values}

module _ (rows : List Row) where
  -- the options of a subcommand other than `audit` have those of the files of the counties
  abbrev HasCounties : Shape → Type 0
  HasCounties s = s.name ≢ codes "audit" → HasValues s.rules rows → HasValues county_options rows

  each_has_counties : AllByRecursion HasCounties subcommands
  each_has_counties =
      (λ other h. front_values county_options solve_options rows h, (λ other h. front_values county_options check_options rows h, (λ other h. front_values county_options judge_options rows h, (λ other h. front_values county_options list_options rows h, (λ other h. front_values county_options size_options rows h, (λ other h. absurd (other refl), (λ other h. front_values county_options share_options rows h, (λ other h. front_values county_options piece_options rows h, (λ other h. front_values county_options worker_options rows h, tt)))))))))

  -- the options of each subcommand have the file of the record
  abbrev HasRecord : Shape → Type 0
  HasRecord s = HasValues s.rules rows → HasItsValue rows (text_option (codes "record"))

  each_has_record : AllByRecursion HasRecord subcommands
  each_has_record =
      (λ h. (behind_values (take 15 (county_options ++ solve_options)) (drop 15 (county_options ++ solve_options)) rows h).0, (λ h. (behind_values (take 13 (county_options ++ check_options)) (drop 13 (county_options ++ check_options)) rows h).0, (λ h. (behind_values (take 14 (county_options ++ judge_options)) (drop 14 (county_options ++ judge_options)) rows h).0, (λ h. (behind_values (take 16 (county_options ++ list_options)) (drop 16 (county_options ++ list_options)) rows h).0, (λ h. (behind_values (take 8 (county_options ++ size_options)) (drop 8 (county_options ++ size_options)) rows h).0, (λ h. (behind_values (take 14 (census_options ++ audit_options)) (drop 14 (census_options ++ audit_options)) rows h).0, (λ h. (behind_values (take 14 (county_options ++ share_options)) (drop 14 (county_options ++ share_options)) rows h).0, (λ h. (behind_values (take 13 (county_options ++ piece_options)) (drop 13 (county_options ++ piece_options)) rows h).0, (λ h. (behind_values (take 11 (county_options ++ worker_options)) (drop 11 (county_options ++ worker_options)) rows h).0, tt)))))))))

  -- the options of each subcommand have those that each has
  abbrev HasCommon : Shape → Type 0
  HasCommon s = HasValues s.rules rows → HasValues common_options rows

  each_has_common : AllByRecursion HasCommon subcommands
  each_has_common =
      (λ h. front_values common_options (drop 5 solve_options) rows (behind_values county_options solve_options rows h), (λ h. front_values common_options (drop 5 check_options) rows (behind_values county_options check_options rows h), (λ h. front_values common_options (drop 5 judge_options) rows (behind_values county_options judge_options rows h), (λ h. front_values common_options (drop 5 list_options) rows (behind_values county_options list_options rows h), (λ h. front_values common_options (drop 5 size_options) rows (behind_values county_options size_options rows h), (λ h. front_values common_options (drop 5 audit_options) rows (behind_values census_options audit_options rows h), (λ h. front_values common_options (drop 5 share_options) rows (behind_values county_options share_options rows h), (λ h. front_values common_options (drop 5 piece_options) rows (behind_values county_options piece_options rows h), (λ h. front_values common_options (drop 5 worker_options) rows (behind_values county_options worker_options rows h), tt)))))))))

module _ (p : Text × List Row) (has : HasCommand p) where
  -- what holds of the subcommand that the name finds
  found_has : (P : Shape → Type 0) → AllByRecursion P subcommands → (s : Shape) × (s.name ≡ p.0) × HasValues s.rules p.1 × P s
  found_has P each = go (find (λ s. bytes_eq s.name p.0) subcommands) refl has
    where
      go : (o : Option Shape) → find (λ s. bytes_eq s.name p.0) subcommands ≡ o → IsSomeAnd o (λ s. HasValues s.rules p.1)
          → (s : Shape) × (s.name ≡ p.0) × HasValues s.rules p.1 × P s
      go None is h = absurd h
      go (Some s) is h =
          let found = find-All P (λ s. bytes_eq s.name p.0) subcommands s (All-from_recursion P subcommands each) is in
          (s, (bytes_eq-Decides s.name p.0).0 found.0, h, found.1)

  pub county_values : p.0 ≢ codes "audit" → HasValues county_options p.1
  county_values other = let found = found_has (HasCounties p.1) (each_has_counties p.1) in found.3 (λ same. other (sym found.1 ∙ same)) found.2

  pub record_value : HasItsValue p.1 (text_option (codes "record"))
  record_value = let found = found_has (HasRecord p.1) (each_has_record p.1) in found.3 found.2

  pub common_values : HasValues common_options p.1
  common_values = let found = found_has (HasCommon p.1) (each_has_common p.1) in found.3 found.2

-- texts of which a test says that they differ
pub differ : (a b : Text) → bytes_eq a b ≡ false → a ≡ b → ⊥
differ a b test same = true≢false (sym ((bytes_eq-Decides a b).1 same) ∙ test)

list_says : (p : Text × List Row) (command : CommandWords) → SaysOptions p command → p.0 ≡ codes "list" → (words : ListWords) × SaysList p.1 words
list_says p (Size words) said is = absurd (differ (codes "size") (codes "list") refl (sym said.0 ∙ is))
list_says p (Judge words) said is = absurd (differ (codes "judge") (codes "list") refl (sym said.0 ∙ is))
list_says p (Solve words) said is = absurd (differ (codes "solve") (codes "list") refl (sym said.0 ∙ is))
list_says p (Check words) said is = absurd (differ (codes "check") (codes "list") refl (sym said.0 ∙ is))
list_says p (Audit words) said is = absurd (differ (codes "audit") (codes "list") refl (sym said.0 ∙ is))
list_says p (ListCommand words) said is = (words, said.1)
list_says p (Share words) said is = absurd (differ (codes "share") (codes "list") refl (sym said.0 ∙ is))
list_says p (Piece words) said is = absurd (differ (codes "piece") (codes "list") refl (sym said.0 ∙ is))
list_says p (Worker words) said is = absurd (differ (codes "worker") (codes "list") refl (sym said.0 ∙ is))

board_says : (p : Text × List Row) (command : CommandWords) → SaysOptions p command → (p.0 ≡ codes "share") ⊎ (p.0 ≡ codes "piece") → (words : BoardWords) × SaysBoard p.1 words
board_says p (Size words) said (inl is) = absurd (differ (codes "size") (codes "share") refl (sym said.0 ∙ is))
board_says p (Size words) said (inr is) = absurd (differ (codes "size") (codes "piece") refl (sym said.0 ∙ is))
board_says p (Judge words) said (inl is) = absurd (differ (codes "judge") (codes "share") refl (sym said.0 ∙ is))
board_says p (Judge words) said (inr is) = absurd (differ (codes "judge") (codes "piece") refl (sym said.0 ∙ is))
board_says p (Solve words) said (inl is) = absurd (differ (codes "solve") (codes "share") refl (sym said.0 ∙ is))
board_says p (Solve words) said (inr is) = absurd (differ (codes "solve") (codes "piece") refl (sym said.0 ∙ is))
board_says p (Check words) said (inl is) = absurd (differ (codes "check") (codes "share") refl (sym said.0 ∙ is))
board_says p (Check words) said (inr is) = absurd (differ (codes "check") (codes "piece") refl (sym said.0 ∙ is))
board_says p (Audit words) said (inl is) = absurd (differ (codes "audit") (codes "share") refl (sym said.0 ∙ is))
board_says p (Audit words) said (inr is) = absurd (differ (codes "audit") (codes "piece") refl (sym said.0 ∙ is))
board_says p (ListCommand words) said (inl is) = absurd (differ (codes "list") (codes "share") refl (sym said.0 ∙ is))
board_says p (ListCommand words) said (inr is) = absurd (differ (codes "list") (codes "piece") refl (sym said.0 ∙ is))
board_says p (Share words) said is = (words.board, said.1.board)
board_says p (Piece words) said is = (words.board, said.1.board)
board_says p (Worker words) said (inl is) = absurd (differ (codes "worker") (codes "share") refl (sym said.0 ∙ is))
board_says p (Worker words) said (inr is) = absurd (differ (codes "worker") (codes "piece") refl (sym said.0 ∙ is))

paired : (rows : List Row) (stored : Option StoredWords) → GivesStored rows stored → AreUnpaired rows → ⊥
paired rows None given unpaired = unpaired (given.0 ∙ sym given.1)
paired rows (Some words) given unpaired = unpaired (given.0 ∙ sym given.2)

asked : (rows : List Row) (words : ListWords) → SaysList rows words → AskAndStore rows → ⊥
asked rows words says both = go says.apart
  where
    go : (words.which ≡ None) ⊎ (words.stored ≡ None) → ⊥
    go (inl none) = true≢false (sym both.0 ∙ subst (GivesText (codes "which") rows) none says.which)
    go (inr none) = true≢false (sym both.1 ∙ (subst (GivesStored rows) none says.stored).0)

limited : (rows : List Row) (round : RoundWords) → GivesRoundWords rows round → LacksLimit rows → ⊥
limited rows (Plain limit depth) given lacks = true≢false (sym given.0 ∙ lacks.1)
limited rows (Wide limit) given lacks = true≢false (sym lacks.0 ∙ given.1)

-- the options of a command go together, if the files of the counties and the tolerance do
pub go_together : (p : Text × List Row) (command : CommandWords) → SaysOptions p command → (p.0 ≢ codes "audit" → LacksCountyFiles p.1 → ⊥)
    → (p.0 ≢ codes "audit" → GivesPeopleAndCensus p.1 → ⊥) → (tolerance : Tolerance) → GivesToleranceOnce p.1 tolerance → HasOptionsFault p → ⊥
go_together p command said enough once tolerance given (CountyFiles, fault) = enough fault.0 fault.1
go_together p command said enough once tolerance given (PeopleAndCensus, fault) = once fault.0 fault.1
go_together p command said enough once tolerance given (NoTolerance, fault) = given.written fault
go_together p command said enough once tolerance given (ToleranceAndPart, fault) = given.once fault
go_together p command said enough once tolerance given (NumberOrOut, fault) =
    let list = list_says p command said fault.0 in
    paired p.1 list.0.stored list.1.stored fault.1
go_together p command said enough once tolerance given (WhichAndStored, fault) =
    let list = list_says p command said fault.0 in
    asked p.1 list.0 list.1 fault.1
go_together p command said enough once tolerance given (Depth, fault) =
    let board = board_says p command said fault.0 in
    limited p.1 board.0.round board.1.round fault.1

-- what holds of a subcommand other than `audit`, whose files of the counties and whose tolerance are given once
pub command_said : (p : Text × List Row) (counties : CountyWords) → GivesCountiesOnce p.1 counties → (tolerance : Tolerance) → GivesToleranceOnce p.1 tolerance
    → (r : Result CommandWords OptionsFault) → MatchResult r (SaysOptions p) (IsOptionsFault p) → MatchResult r (SaysCommand p) (IsOptionsFault p)
command_said p counties given tolerance by (Ok command) said =
    record { options = said; together = go_together p command said (λ other. given.enough) (λ other. given.once) tolerance by }
command_said p counties given tolerance by (Err fault) is = is

pub audit_said : (p : Text × List Row) (words : AuditWords) → p.0 ≡ codes "audit" → (tolerance : Tolerance) → GivesToleranceOnce p.1 tolerance → SaysAudit p.1 words
    → SaysCommand p (Audit words)
audit_said p words is tolerance by said = record {
  options = (is, said);
  together = go_together p (Audit words) (is, said) (λ other lacks. other is) (λ other both. other is) tolerance by;
}
