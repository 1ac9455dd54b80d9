-- What the getters read of the options that have a value.
use Rattle.std.proofs.Common.{◌++◌, ◌∷◌, [], ◌≡◌, ◌⊎◌, ◌∙◌, ◌<◌, ◌≤◌, ◌^◌, ℕ, Bool, true, false, refl, sym, ap, subst, inl, inr, List, Option, Some, None, Result, is_some}
use Rattle.std.specs.Prelude.{find, option_and_then, option_map, pos, slice_get}
use Rattle.std.specs.Str.{bytes_eq}
use Rattle.std.specs.Borrow.{Bor}
use Rattle.std.specs.Option.{IsSomeAnd, option_map_or}
use Rattle.std.specs.Str.Parse.{ExplainsUnsignedError, HasUnsignedDigitsIfOk, ParsesUnsigned, signed_digits_value}
use Rattle.std.specs.declared.num.ParseIntError.{ParseIntError}
use Rattle.clap.specs.Lexer.{without_minus}
use Rattle.clap.specs.Matches.{ReadsOne, first_value, matched_of, one_text}
use Rattle.clap.specs.Facts.{explicit_source, parser_of_value}
use Rattle.clap.specs.Values.{Accepts, read_as, reading_of}
use Rattle.clap.specs.Takes.{is_given}
use Rattle.clap.specs.Walk.{Row, Rule, Text, first_of, row_text, rows_of}
use Rattle.clap.specs.declared.builder.value_parser.ValueParser.{ValueParser}
use Rattle.clap.specs.declared.builder.value_parser.ValueParser.TheVariants.{Signed, Unsigned}
use Rattle.clap.specs.declared.parser.matches.Found.{Found}
use Rattle.clap.specs.declared.parser.matches.MatchedArg.{MatchedArg}
use Rattle.clap.specs.declared.parser.matches.ValueSource.{ValueSource}
use Rattle.clap.proofs.CallerLemmas.{some_of_text}
use Rattle.clap.proofs.TakesLemmas.{present_row}
use Rattle.clap.proofs.WalkLemmas.{first_value-rows, one_text-rows}
use Rattle.cli_words.specs.Options.{HasNone, HasValue, HasValues, Spells}
use Rattle.cli_words.specs.Words.{GivesItsNumber, GivesNumber, GivesText}
use Rattle.cli_words.proofs.NumberLemmas.{signed_spells, unsigned_spells}

-- what `from_str` gives at an unsigned type of k bits
abbrev pub Parses : ℕ → List ℕ → Result ℕ ParseIntError → Type 0
Parses k text r = ParsesUnsigned k 10 text r × ExplainsUnsignedError 10 text r × HasUnsignedDigitsIfOk text r

module _ (f : Found) (a : Rule) (bare : slice_get a.defaults 0 ≡ None) where
  -- a value of an option without a default is one that the words give
  given_value : HasValue (rows_of f) a → is_given a.id (rows_of f) ≡ true
  given_value h = go (is_given a.id (rows_of f)) refl
    where
      go : (b : Bool) → is_given a.id (rows_of f) ≡ b → b ≡ true
      go true is = refl
      go false is = let bad : Some h.text ≡ None = sym (h.default is) ∙ bare in cc

  -- `get_str` gives what the words give of it
  pub text_given : HasValue (rows_of f) a ⊎ HasNone (rows_of f) a → (o : Option (Bor Text)) → option_map (λ s. s.now) o ≡ first_value f a.id → GivesText a.id (rows_of f) o
  text_given (inl h) None is = let bad : None ≡ Some h.text = is ∙ (first_value-rows f a.id ∙ h.first) in cc
  text_given (inl h) (Some s) is = (given_value h, sym (is ∙ first_value-rows f a.id))
  text_given (inr h) None is = h.absent
  text_given (inr h) (Some s) is = let bad : Some s.now ≡ None = is ∙ (first_value-rows f a.id ∙ h.none) in cc

-- what the words say by a number that was read: it is the option's, in its range, and the default's where they give
-- none
pub record SaysNumber (f : Found) (a : Rule) (low high n : ℕ) : Type 0 where
  pub given : GivesNumber a.id (rows_of f) n
  pub range : (low ≤ n) × (n ≤ high)
  pub default : (text : Text) (d : ℕ) → slice_get a.defaults 0 ≡ Some text → signed_digits_value 10 text ≡ pos d → is_given a.id (rows_of f) ≡ false → n ≡ d

module _ (f : Found) (a : Rule) (h : HasValue (rows_of f) a) where
  -- `get_str` gives the option's value
  pub text_read : (o : Option (Bor Text)) → option_map (λ s. s.now) o ≡ first_value f a.id → is_some o ≡ true
  text_read o is = some_of_text (λ s. s.now) o _ is (ap is_some (first_value-rows f a.id ∙ h.first))

  pub text_is : (o : Option (Bor Text)) (s : Bor Text) → option_map (λ x. x.now) o ≡ first_value f a.id → o ≡ Some s → first_of a.id (rows_of f) ≡ Some s.now
  text_is o s is some = sym (first_value-rows f a.id) ∙ (sym is ∙ ap (option_map (λ x. x.now)) some)

  pub number_given : (n : ℕ) → Spells h.text n → GivesNumber a.id (rows_of f) n
  number_given n spells = subst (λ (o : Option Text). IsSomeAnd o (λ t. Spells t n)) (sym h.first) spells

  -- where the words give none, that is the default's number
  default_is : (text : Text) (d n : ℕ) → slice_get a.defaults 0 ≡ Some text → signed_digits_value 10 text ≡ pos d → Spells h.text n → is_given a.id (rows_of f) ≡ false
      → n ≡ d
  default_is text d n is value spells none =
      let same : h.text ≡ text = let one : Some h.text ≡ Some text = sym (h.default none) ∙ is in cc in
      let spelled : Spells text n = subst (λ (t : Text). Spells t n) same spells in
      let numbers : pos n ≡ pos d = sym spelled.1 ∙ value in
      cc

  -- the number that a read gave
  number_said : (low high : ℕ) (r : Option ℕ) (v : ℕ) → (n : ℕ) × (r ≡ Some n) × (low ≤ n) × (n ≤ high) × Spells h.text n → r ≡ Some v → SaysNumber f a low high v
  number_said low high r v read is =
      let one : read.0 ≡ v = let same : Some read.0 ≡ Some v = sym read.1 ∙ is in cc in
      subst (SaysNumber f a low high) one (record {
        given = number_given read.0 read.4;
        range = (read.2, read.3);
        default = λ text d bare value none. default_is text d read.0 bare value read.4 none;
      })

  module _ (k low high : ℕ) (r : Option ℕ) (reads : (t : List ℕ) → one_text f a.id ≡ Some t → ReadsOne (Parses k) t r) (fits : high < 2 ^ k) where
    read_by : (p : ValueParser) → a.parser ≡ Some p → (one_text f a.id ≡ Some (read_as (reading_of p) h.text)) × Accepts a.ignore_case p h.text
    read_by p parser = (
      one_text-rows f a.id ∙ (h.read ∙ ap (λ (q : Option ValueParser). Some (read_as (reading_of (parser_of_value q)) h.text)) parser),
      subst (λ (q : Option ValueParser). Accepts a.ignore_case (parser_of_value q) h.text) parser h.accepted,
    )

    -- `get_one` gives the number that the option's value writes, at a parser of signed numbers
    pub signed_read : a.parser ≡ Some (Signed (pos low) (pos high)) → (n : ℕ) × (r ≡ Some n) × (low ≤ n) × (n ≤ high) × Spells h.text n
    signed_read parser =
        let by = read_by (Signed (pos low) (pos high)) parser in
        signed_spells ParseIntError (Parses k) k low high h.text r (reads (without_minus h.text) by.0) (λ u x given. given.0) fits by.1

    -- and at one of unsigned numbers
    pub unsigned_read : a.parser ≡ Some (Unsigned low high) → (n : ℕ) × (r ≡ Some n) × (low ≤ n) × (n ≤ high) × Spells h.text n
    unsigned_read parser =
        let by = read_by (Unsigned low high) parser in
        unsigned_spells ParseIntError (Parses k) k low high h.text r (reads h.text by.0) (λ u x given. given.0) fits by.1

    -- so the words say it
    pub signed_said : a.parser ≡ Some (Signed (pos low) (pos high)) → (v : ℕ) → r ≡ Some v → SaysNumber f a low high v
    signed_said parser v is = number_said low high r v (signed_read parser) is

    pub unsigned_said : a.parser ≡ Some (Unsigned low high) → (v : ℕ) → r ≡ Some v → SaysNumber f a low high v
    unsigned_said parser v is = number_said low high r v (unsigned_read parser) is

-- where there is no first value, no getter reads one
one_of_none : (id : Text) (o : Option Row) → option_and_then (λ (r : Row). slice_get r.values 0) o ≡ None → option_and_then row_text o ≡ None
one_of_none id None e = refl
one_of_none id (Some r) e = ap (option_map (read_as r.reading)) e

module _ (f : Found) (a : Rule) (bare : slice_get a.defaults 0 ≡ None) (k low high : ℕ) (r : Option ℕ)
    (none : one_text f a.id ≡ None → r ≡ None) (reads : (t : List ℕ) → one_text f a.id ≡ Some t → ReadsOne (Parses k) t r) (fits : high < 2 ^ k)
    (parser : a.parser ≡ Some (Signed (pos low) (pos high))) where
  -- `get_one` gives what the words give of it
  pub its_number_given : HasValue (rows_of f) a ⊎ HasNone (rows_of f) a → GivesItsNumber a.id (rows_of f) r
  its_number_given (inl h) =
      let read = signed_read f a h k low high r reads fits parser in
      subst (GivesItsNumber a.id (rows_of f)) (sym read.1) (given_value f a bare h, number_given f a h read.0 read.4)
  its_number_given (inr h) =
      subst (GivesItsNumber a.id (rows_of f)) (sym (none (one_text-rows f a.id ∙ one_of_none a.id (find (λ (x : Row). bytes_eq x.id a.id) (rows_of f)) h.none))) h.absent

module _ (f : Found) (id : Text) where
  -- an option is given where its value comes from the words
  pub source_given : (s : ValueSource) → option_and_then (λ a. a.source) (matched_of f id) ≡ Some s → is_given id (rows_of f) ≡ explicit_source (Some s)
  source_given s is = sym (present_row f id) ∙ go (matched_of f id) is
    where
      go : (o : Option MatchedArg) → option_and_then (λ a. a.source) o ≡ Some s → option_map_or (λ a. explicit_source a.source) o false ≡ explicit_source (Some s)
      go None e = cc
      go (Some a) e = ap explicit_source e

  -- where that is not known, it is given if it has an entry
  pub entry_given : option_and_then (λ a. a.source) (matched_of f id) ≡ None → is_given id (rows_of f) ≡ is_some (matched_of f id)
  entry_given is = sym (present_row f id) ∙ go (matched_of f id) is
    where
      go : (o : Option MatchedArg) → option_and_then (λ a. a.source) o ≡ None → option_map_or (λ a. explicit_source a.source) o false ≡ is_some o
      go None e = refl
      go (Some a) e = ap explicit_source e

-- the values of the first of these options
pub front_values : (options more : List Rule) (rows : List Row) → HasValues (options ++ more) rows → HasValues options rows
front_values [] more rows h = tt
front_values (x ∷ xs) more rows h = (h.0, front_values xs more rows h.1)

-- and those of the others
pub behind_values : (options more : List Rule) (rows : List Row) → HasValues (options ++ more) rows → HasValues more rows
behind_values [] more rows h = h
behind_values (x ∷ xs) more rows h = behind_values xs more rows h.1
