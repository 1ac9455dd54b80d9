-- A line that is cut into its fields byte by byte.
use Rattle.std.specs.Prelude.{◌≡◌, ℕ, List, ◌∷◌, ◌++◌, Option}
use Rattle.std.specs.Option.{option_map}
use Rattle.people_table.specs.declared.fields.Place.{Place}
use Rattle.people_table.specs.QuotedFields.{LineFields, fields_at}

-- the fields of a line, as one list
abbrev pub all_fields : LineFields → List (List ℕ)
all_fields fields = fields.first ∷ fields.others

-- the fields that were read, the bytes of the field that is being read, and the place of the next byte
pub record LineBegun : Type 0 where
  pub fields : List (List ℕ)
  pub bytes : List ℕ
  pub place : Place

-- the fields of a line that was begun, if its rest has these fields
abbrev pub fields_behind : LineBegun → Option LineFields → Option (List (List ℕ))
fields_behind begun rest = option_map (λ f. begun.fields ++ (begun.bytes ++ f.first) ∷ f.others) rest

-- a byte of a line with this delimiter was read: whatever follows it, the line has the fields that it had
abbrev pub HasRead : ℕ → ℕ → LineBegun → LineBegun → Type 0
HasRead delimiter byte old new = (rest : List ℕ)
    → fields_behind new (fields_at delimiter new.place rest)
    ≡ fields_behind old (fields_at delimiter old.place (byte ∷ rest))
