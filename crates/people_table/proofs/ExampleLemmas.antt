-- What the definitions of `specs/` say of tables that are written out.
use Rattle.std.proofs.Common.{◌≡◌, refl, ℕ, List, [], ◌∷◌, ◌++◌, Some, None, Ok, Err, codes}
use lib.Utf8.{encode}
use Rattle.std.specs.Str.{is_utf8, chars}
use Rattle.pl94_counties.specs.CountyNames.{CountyName}
use Rattle.people_table.specs.declared.fault.PeopleFault.{PeopleFault}
use Rattle.people_table.specs.declared.fault.PeopleKind.{PeopleKind}
use Rattle.people_table.specs.declared.fault.PeopleKind.TheVariants.{BadLine, BadCode, BadNumber, BadName, DoubleCounty, NoCounties}
use Rattle.people_table.specs.QuotedFields.{quoted_fields}
use Rattle.people_table.specs.CountyLines.{county_in}
use Rattle.people_table.specs.Listed.{people_list, named_people_list}

abbrev county : ℕ → ℕ → List ℕ → CountyName
county code people name = record { county = record { code = code; people = people }; name = name }

abbrev fault : PeopleKind → ℕ → PeopleFault
fault kind line = record { kind = kind; line = line }

-- ---- fields
plain : quoted_fields 44 (codes "a,,b") ≡ Some (record { first = codes "a"; others = [] ∷ codes "b" ∷ [] })
plain = refl

quoted : quoted_fields 44 (codes "\"a,\"\"b\"\"\",\"\"") ≡ Some (record { first = codes "a,\"b\""; others = [] ∷ [] })
quoted = refl

not_closed : quoted_fields 44 (codes "a,\"b") ≡ None
not_closed = refl

behind_quote : quoted_fields 44 (codes "\"a\"b,c") ≡ None
behind_quote = refl

quote_inside : quoted_fields 44 (codes "a\"b,c") ≡ None
quote_inside = refl

-- ---- tables
-- a header, a name between quotes with a comma, a line of another state, and CR before LF
two_counties : named_people_list (codes "GEOID,POPULATION,NAME\r\n37183,1129410,Wake\r\n45001,24295\r\n37063,324833,\"Durham, N.C.\"\r\n") 37
    ≡ Ok (county 37063 324833 (codes "Durham, N.C.") ∷ county 37183 1129410 (codes "Wake") ∷ [])
unfolding county_in is_utf8 chars encode
two_counties = refl

-- pipes, a byte order mark, a blank line, no header and no LF at the end
pipes : people_list (239 ∷ 187 ∷ 191 ∷ codes "37183|0000000001|Wake\n\n37063|4294967295") 37
    ≡ Ok (record { code = 37063; people = 4294967295 } ∷ record { code = 37183; people = 1 } ∷ [])
unfolding county_in is_utf8 chars encode
pipes = refl

-- the comma of the first line makes the comma the delimiter, and so the first line a header
comma_first : people_list (codes "37183|1|Wake, N.C.\n37063|1\n") 37 ≡ Err (fault BadLine 2)
unfolding county_in is_utf8 chars encode
comma_first = refl

one_field : people_list (codes "37001,1\n37003\n") 37 ≡ Err (fault BadLine 2)
unfolding county_in is_utf8 chars encode
one_field = refl

four_fields : people_list (codes "37001,1,a,b\n") 37 ≡ Err (fault BadLine 1)
unfolding county_in is_utf8 chars encode
four_fields = refl

open_quote : people_list (codes "37001,1,\"Alamance\n37003,1\n") 37 ≡ Err (fault BadLine 1)
unfolding county_in is_utf8 chars encode
open_quote = refl

-- a second line that would be a header
bad_code : people_list (codes "37001,1\nGEOID,POPULATION\n") 37 ≡ Err (fault BadCode 2)
unfolding county_in is_utf8 chars encode
bad_code = refl

-- a line of another state
bad_number : people_list (codes "37001,1\n45001,4294967296\n") 37 ≡ Err (fault BadNumber 2)
unfolding county_in is_utf8 chars encode
bad_number = refl

bad_name : people_list (codes "37001,1," ++ 255 ∷ []) 37 ≡ Err (fault BadName 1)
unfolding county_in is_utf8 chars encode
bad_name = refl

-- another state's county may stand twice
double : people_list (codes "37001,1\n45001,1\n45001,1\n37001,2\n") 37 ≡ Err (fault DoubleCounty 4)
unfolding county_in is_utf8 chars encode
double = refl

none : people_list (codes "GEOID,POPULATION\n45001,1\n") 37 ≡ Err (fault NoCounties 0)
unfolding county_in is_utf8 chars encode
none = refl
