-- What the values of a subcommand's options are, where the words are taken.
use Rattle.std.specs.Prelude.{◌≡◌, ◌⊎◌, ◌&&◌, ◌||◌, ⊤, not, ℕ, Bool, true, false, Some, None, List, [], ◌∷◌, find, pos, slice_get}
use Rattle.std.specs.Prelude.{nat_lt}
use Rattle.std.specs.Option.{IsSomeAnd}
use Rattle.std.specs.Str.{bytes_eq}
use Rattle.std.specs.Str.Parse.{IsNumeral, signed_digits_value, without_leading_sign}
use Rattle.clap.specs.Facts.{parser_of_value, unwrap_or_range}
use Rattle.clap.specs.Simple.{filled}
use Rattle.clap.specs.Takes.{is_given}
use Rattle.clap.specs.Values.{Accepts, read_as}
use Rattle.clap.specs.Walk.{Row, Rule, Text, action_of, first_of, is_empty, one_of, reading_by}
use Rattle.clap.specs.declared.builder.action.ArgAction.{ArgAction}
use Rattle.clap.specs.declared.builder.action.ArgAction.TheVariants.{Set}
use Rattle.cli_words.specs.Command.{subcommands}

-- the rows have a value of the option, which its parser takes and its getters read, and which is
-- the default where the words give none
pub record HasValue (rows : List Row) (option : Rule) : Type 0 where
  pub text : Text
  pub first : first_of option.id rows ≡ Some text
  pub read : one_of option.id rows ≡ Some (read_as (reading_by option) text)
  pub accepted : Accepts option.ignore_case (parser_of_value option.parser) text
  pub default : is_given option.id rows ≡ false → slice_get option.defaults 0 ≡ Some text

abbrev pub is_set : ArgAction → Bool
is_set Set = true
is_set _ = false

-- the option takes a value
abbrev pub takes_value : Rule → Bool
takes_value option = is_set (action_of option) && nat_lt 0 (unwrap_or_range option.range).start_inclusive

-- the option has a value wherever clap takes the words: it is required or has a default
abbrev pub always_has_value : Rule → Bool
always_has_value option = option.required || not (is_empty option.defaults)

-- the words don't give the option, which they need not, and the rows have no value of it
pub record HasNone (rows : List Row) (option : Rule) : Type 0 where
  pub optional : always_has_value option ≡ false
  pub absent : is_given option.id rows ≡ false
  pub none : first_of option.id rows ≡ None

-- the rows have the option's value, if it takes one, or rightly none, if it doesn't always have one
abbrev pub HasValueIf : (takes always : Bool) → List Row → Rule → Type 0
HasValueIf false always rows option = ⊤
HasValueIf true true rows option = HasValue rows option
HasValueIf true false rows option = HasValue rows option ⊎ HasNone rows option

-- the rows have the option's value, as clap completes it, or rightly none
abbrev pub HasItsValue : List Row → Rule → Type 0
HasItsValue rows option =
    HasValueIf (takes_value (filled option)) (always_has_value (filled option)) rows (filled option)

-- the rows have the value of each of the options, as clap completes it, or rightly none
abbrev pub HasValues : List Rule → List Row → Type 0
HasValues [] rows = ⊤
HasValues (option ∷ more) rows = HasItsValue rows option × HasValues more rows

-- the name is that of a subcommand, and the rows have the values of its options
abbrev pub HasCommand : Text × List Row → Type 0
HasCommand p = IsSomeAnd (find (λ s. bytes_eq s.name p.0) subcommands) (λ s. HasValues s.rules p.1)

-- the text writes the number in decimal digits, after a sign or none
abbrev pub Spells : Text → ℕ → Type 0
Spells text n = IsNumeral 10 (without_leading_sign text) × (signed_digits_value 10 text ≡ pos n)
