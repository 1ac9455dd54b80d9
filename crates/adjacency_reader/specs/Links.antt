-- Links: pairs of counties that are added or cut.
use Rattle.std.specs.Prelude.{ℕ, ◌==◌, ◌&&◌, ◌||◌, Bool, List, [], ◌∷◌, Option, Some, None, Result, Ok, if◌then◌else◌}
use Rattle.std.specs.Option.{ok_or, option_or}
use Rattle.field_lines.specs.Chain.{◌>>=◌}
use Rattle.field_lines.specs.Fields.{field_of}
use Rattle.field_lines.specs.Number.{digits_of}
use Rattle.grouping_reader.specs.declared.fault.CodeLineKind.{CodeLineKind}
use Rattle.grouping_reader.specs.declared.fault.CodeLineKind.TheVariants.{TooFewFields, BadSign, BadCode}
use Rattle.grouping_reader.specs.declared.fault.CodeLineFault.{CodeLineFault}
use Rattle.adjacency_reader.specs.declared.links.Sign.{Sign}
use Rattle.adjacency_reader.specs.declared.links.Sign.TheVariants.{Add, Cut}
use Rattle.adjacency_reader.specs.declared.links.Link.{Link}
use Rattle.grouping_reader.specs.Faults.{value_list}

-- the sign that a field is: `+` or `-`
abbrev pub sign_of : List ℕ → Option Sign
sign_of (b ∷ []) = if b == 43 then Some Add else if b == 45 then Some Cut else None
sign_of bytes = None

-- the link on a line: its sign, and two codes of five digits
unfoldable pub link_on : List ℕ → Result Link CodeLineKind
link_on line = do
  sign_field ← ok_or (field_of 124 1 line) TooFewFields
  a_field ← ok_or (field_of 124 2 line) TooFewFields
  b_field ← ok_or (field_of 124 3 line) TooFewFields
  sign ← ok_or (sign_of sign_field) BadSign
  a ← ok_or (digits_of 5 a_field) BadCode
  b ← ok_or (digits_of 5 b_field) BadCode
  Ok (record { sign = sign; a = a; b = b })

-- the links of a whole text in their order, or its first fault
abbrev pub link_list : List ℕ → Result (List Link) CodeLineFault
link_list text = value_list link_on text

-- whether a link names both codes, in either order
abbrev pub is_on : ℕ → ℕ → Link → Bool
is_on x y link = (link.a == x && link.b == y) || (link.a == y && link.b == x)

-- the sign of the last link that names both codes, in either order
abbrev pub last_sign : List Link → ℕ → ℕ → Option Sign
last_sign [] x y = None
last_sign (link ∷ links) x y = option_or (last_sign links x y) (if is_on x y link then Some link.sign else None)
