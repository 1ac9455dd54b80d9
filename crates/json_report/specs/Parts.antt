-- The parts of an answer's object, as JSON's tokens (RFC 8259).
use Rattle.std.specs.Prelude.{◌≡◌, ℕ, List, [], ◌∷◌, ◌++◌, Option, Some, None, OnOk, Result, codes, decimal, map, if◌then◌else◌}
use Rattle.std.specs.List.{flat_map}
use Rattle.std.specs.Str.{is_utf8}
use Rattle.json.specs.Token.{Token, begin_object, end_object, begin_array, end_array, key, string, number, null}
use Rattle.json.specs.Print.{print}
use Rattle.json.specs.Written.{Written}
use Rattle.county_codes.specs.Digits.{five_digits}
use Rattle.pl94_counties.specs.CountyNames.{CountyName}

-- these tokens are written behind the others, unless memory was refused
abbrev pub Adds : {E : Type 0} → Result (Unit {0}) E → Written → Written → List Token → Type 0
Adds result old new tokens = OnOk result ((new.before ≡ old.before) × (new.tokens ≡ old.tokens ++ tokens))

-- the text of an object: one line
abbrev pub line_of : List Token → List ℕ
line_of tokens = print tokens ++ codes "\n"

-- a member whose value is a number
abbrev pub number_member : List ℕ → ℕ → List Token
number_member name n = key name ∷ number (decimal n) ∷ []

-- a member whose value is a text
abbrev pub text_member : List ℕ → List ℕ → List Token
text_member name text = key name ∷ string text ∷ []

-- the text, if it is UTF-8, and else no text
abbrev pub if_utf8 : List ℕ → List ℕ
if_utf8 text = if is_utf8 text then text else []

-- the least and the greatest of a run of numbers, or null
abbrev pub run_tokens : Option (ℕ × ℕ) → List Token
run_tokens None = null ∷ []
run_tokens (Some r) =
    begin_object ∷ (number_member (codes "least") r.0 ++ number_member (codes "greatest") r.1) ++ end_object ∷ []

-- the codes of counties, each a text of five digits
abbrev pub code_tokens : List ℕ → List Token
code_tokens county_codes = begin_array ∷ map (λ c. string (five_digits c)) county_codes ++ end_array ∷ []

-- the name of each county, by its code
abbrev pub name_members : List CountyName → List Token
name_members named = flat_map (λ k. text_member (five_digits k.county.code) k.name) named

-- the member of the names, if the counties have names
abbrev pub names_member : Option (List CountyName) → List Token
names_member None = []
names_member (Some named) = key (codes "names") ∷ begin_object ∷ name_members named ++ end_object ∷ []
