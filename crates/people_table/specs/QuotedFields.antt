-- The fields of a line, any of which may stand between quotes (RFC 4180).
use Rattle.std.specs.Prelude.{ℕ, ◌==◌, List, [], ◌∷◌, Option, Some, None, if◌then◌else◌}
use Rattle.std.specs.Option.{option_map}
use Rattle.people_table.specs.declared.fields.Place.{Place}
use Rattle.people_table.specs.declared.fields.Place.TheVariants.{Start, Bare, Quoted, Behind, Wrong}

-- the first field of a line and the fields behind it
pub record LineFields : Type 0 where
  pub first : List ℕ
  pub others : List (List ℕ)

-- a first field and no other
abbrev pub one_field : List ℕ → LineFields
one_field first = record { first = first; others = [] }

-- the first field begins with one byte more
abbrev pub with_byte : ℕ → LineFields → LineFields
with_byte byte fields = record { first = byte ∷ fields.first; others = fields.others }

-- an empty field in front of the others
abbrev pub behind_empty : LineFields → LineFields
behind_empty fields = record { first = []; others = fields.first ∷ fields.others }

-- The fields of the rest of a line, which begins at a place of its first field: at the start, in a field without
-- quotes, between the quotes, or behind a quote that closes the field unless another quote follows. Two quotes between
-- quotes stand for one. There are no fields if a quote isn't closed, if anything but the delimiter follows a field's
-- closing quote, or if a quote stands in a field that doesn't begin with one.
abbrev pub fields_at : ℕ → Place → List ℕ → Option LineFields
fields_at delimiter Start [] = Some (one_field [])
fields_at delimiter Start (b ∷ rest) =
    if b == 34 then fields_at delimiter Quoted rest
    else if b == delimiter then option_map behind_empty (fields_at delimiter Start rest)
    else option_map (with_byte b) (fields_at delimiter Bare rest)
fields_at delimiter Bare [] = Some (one_field [])
fields_at delimiter Bare (b ∷ rest) =
    if b == 34 then None
    else if b == delimiter then option_map behind_empty (fields_at delimiter Start rest)
    else option_map (with_byte b) (fields_at delimiter Bare rest)
fields_at delimiter Quoted [] = None
fields_at delimiter Quoted (b ∷ rest) =
    if b == 34 then fields_at delimiter Behind rest
    else option_map (with_byte b) (fields_at delimiter Quoted rest)
fields_at delimiter Behind [] = Some (one_field [])
fields_at delimiter Behind (b ∷ rest) =
    if b == 34 then option_map (with_byte 34) (fields_at delimiter Quoted rest)
    else if b == delimiter then option_map behind_empty (fields_at delimiter Start rest)
    else None
fields_at delimiter Wrong bytes = None

-- the fields of a line, or none if its quotes are wrong
abbrev pub quoted_fields : ℕ → List ℕ → Option LineFields
quoted_fields delimiter line = fields_at delimiter Start line
