-- The fields of a line that is cut byte by byte.
use Rattle.std.proofs.Common.{◌≡◌, ℕ, ◌==◌, Bool, true, false, List, [], ◌∷◌, ◌++◌, Option, Some, None, if◌then◌else◌, refl, sym, ap, ◌∙◌, append_assoc, eq-eqb}
use Rattle.std.proofs.lemmas.List.{append-nil}
use Rattle.std.specs.Option.{option_map}
use Rattle.people_table.specs.declared.fields.Place.{Place}
use Rattle.people_table.specs.declared.fields.Place.TheVariants.{Start, Bare, Quoted, Behind}
use Rattle.people_table.specs.QuotedFields.{LineFields, with_byte, behind_empty, fields_at}
use Rattle.people_table.specs.CutFields.{LineBegun, fields_behind, HasRead}

abbrev pub begun : List (List ℕ) → List ℕ → Place → LineBegun
begun fields bytes place = record { fields = fields; bytes = bytes; place = place }

-- a byte of a field
byte_behind : (fields : List (List ℕ)) (bytes : List ℕ) (p q : Place) (b : ℕ) (rest : Option LineFields)
    → fields_behind (begun fields (bytes ++ b ∷ []) p) rest ≡ fields_behind (begun fields bytes q) (option_map (with_byte b) rest)
byte_behind fields bytes p q b None = refl
byte_behind fields bytes p q b (Some f) = ap (λ (bs : List ℕ). Some (fields ++ bs ∷ f.others)) (append_assoc bytes (b ∷ []) f.first)

-- the end of a field
field_behind : (fields : List (List ℕ)) (bytes : List ℕ) (p q : Place) (rest : Option LineFields)
    → fields_behind (begun (fields ++ bytes ∷ []) [] p) rest ≡ fields_behind (begun fields bytes q) (option_map behind_empty rest)
field_behind fields bytes p q None = refl
field_behind fields bytes p q (Some f) =
    ap (λ (fs : List (List ℕ)). Some fs) (append_assoc fields (bytes ∷ []) (f.first ∷ f.others)) ∙ ap (λ (bs : List ℕ). Some (fields ++ bs ∷ f.first ∷ f.others)) (sym (append-nil bytes))

-- ---- the fields of a line by its first byte
module _ (d b : ℕ) (rest : List ℕ) where
  start_end : (b == 34) ≡ false → (b == d) ≡ true → fields_at d Start (b ∷ rest) ≡ option_map behind_empty (fields_at d Start rest)
  start_end other same =
      ap (λ (t : Bool). if t then fields_at d Quoted rest else if b == d then option_map behind_empty (fields_at d Start rest) else option_map (with_byte b) (fields_at d Bare rest)) other
      ∙ ap (λ (t : Bool). if t then option_map behind_empty (fields_at d Start rest) else option_map (with_byte b) (fields_at d Bare rest)) same

  start_other : (b == 34) ≡ false → (b == d) ≡ false → fields_at d Start (b ∷ rest) ≡ option_map (with_byte b) (fields_at d Bare rest)
  start_other other apart =
      ap (λ (t : Bool). if t then fields_at d Quoted rest else if b == d then option_map behind_empty (fields_at d Start rest) else option_map (with_byte b) (fields_at d Bare rest)) other
      ∙ ap (λ (t : Bool). if t then option_map behind_empty (fields_at d Start rest) else option_map (with_byte b) (fields_at d Bare rest)) apart

  bare_end : (b == 34) ≡ false → (b == d) ≡ true → fields_at d Bare (b ∷ rest) ≡ option_map behind_empty (fields_at d Start rest)
  bare_end other same =
      ap (λ (t : Bool). if t then None else if b == d then option_map behind_empty (fields_at d Start rest) else option_map (with_byte b) (fields_at d Bare rest)) other
      ∙ ap (λ (t : Bool). if t then option_map behind_empty (fields_at d Start rest) else option_map (with_byte b) (fields_at d Bare rest)) same

  bare_other : (b == 34) ≡ false → (b == d) ≡ false → fields_at d Bare (b ∷ rest) ≡ option_map (with_byte b) (fields_at d Bare rest)
  bare_other other apart =
      ap (λ (t : Bool). if t then None else if b == d then option_map behind_empty (fields_at d Start rest) else option_map (with_byte b) (fields_at d Bare rest)) other
      ∙ ap (λ (t : Bool). if t then option_map behind_empty (fields_at d Start rest) else option_map (with_byte b) (fields_at d Bare rest)) apart

  behind_end : (b == 34) ≡ false → (b == d) ≡ true → fields_at d Behind (b ∷ rest) ≡ option_map behind_empty (fields_at d Start rest)
  behind_end other same =
      ap (λ (t : Bool). if t then option_map (with_byte 34) (fields_at d Quoted rest) else if b == d then option_map behind_empty (fields_at d Start rest) else None) other
      ∙ ap (λ (t : Bool). if t then option_map behind_empty (fields_at d Start rest) else None) same

  quoted_other : (b == 34) ≡ false → fields_at d Quoted (b ∷ rest) ≡ option_map (with_byte b) (fields_at d Quoted rest)
  quoted_other other = ap (λ (t : Bool). if t then fields_at d Behind rest else option_map (with_byte b) (fields_at d Quoted rest)) other

-- ---- a byte that is read
abbrev Kept : ℕ → LineBegun → Place → LineBegun → Type 0
Kept b old p new = new ≡ begun old.fields (old.bytes ++ b ∷ []) p

abbrev Ended : LineBegun → LineBegun → Type 0
Ended old new = new ≡ begun (old.fields ++ old.bytes ∷ []) [] Start

kept : (d b : ℕ) (old new : LineBegun) (p q : Place) → old.place ≡ p → Kept b old q new
    → ((rest : List ℕ) → fields_at d p (b ∷ rest) ≡ option_map (with_byte b) (fields_at d q rest)) → HasRead d b old new
kept d b old new p q at is next rest =
    ap (λ (s : LineBegun). fields_behind s (fields_at d s.place rest)) is
    ∙ byte_behind old.fields old.bytes q p b (fields_at d q rest)
    ∙ ap (λ (r : Option LineFields). fields_behind old r) (sym (next rest) ∙ ap (λ (s : Place). fields_at d s (b ∷ rest)) (sym at))

ended : (d b : ℕ) (old new : LineBegun) (p : Place) → old.place ≡ p → Ended old new
    → ((rest : List ℕ) → fields_at d p (b ∷ rest) ≡ option_map behind_empty (fields_at d Start rest)) → HasRead d b old new
ended d b old new p at is next rest =
    ap (λ (s : LineBegun). fields_behind s (fields_at d s.place rest)) is
    ∙ field_behind old.fields old.bytes Start p (fields_at d Start rest)
    ∙ ap (λ (r : Option LineFields). fields_behind old r) (sym (next rest) ∙ ap (λ (s : Place). fields_at d s (b ∷ rest)) (sym at))

pub keeps_at_start : (b : ℕ) (old new : LineBegun) → old.place ≡ Start → (b == 34) ≡ false → new ≡ begun old.fields (old.bytes ++ b ∷ []) Bare → (d : ℕ) → (b == d) ≡ false → HasRead d b old new
keeps_at_start b old new at other is d apart = kept d b old new Start Bare at is (λ rest. start_other d b rest other apart)

pub keeps_bare : (b : ℕ) (old new : LineBegun) → old.place ≡ Bare → (b == 34) ≡ false → new ≡ begun old.fields (old.bytes ++ b ∷ []) Bare → (d : ℕ) → (b == d) ≡ false → HasRead d b old new
keeps_bare b old new at other is d apart = kept d b old new Bare Bare at is (λ rest. bare_other d b rest other apart)

pub keeps_quoted : (d b : ℕ) (old new : LineBegun) → old.place ≡ Quoted → (b == 34) ≡ false → new ≡ begun old.fields (old.bytes ++ b ∷ []) Quoted → HasRead d b old new
keeps_quoted d b old new at other is = kept d b old new Quoted Quoted at is (λ rest. quoted_other d b rest other)

pub ends_at_start : (d : ℕ) (old new : LineBegun) → old.place ≡ Start → (d == 34) ≡ false → new ≡ begun (old.fields ++ old.bytes ∷ []) [] Start → HasRead d d old new
ends_at_start d old new at other is = ended d d old new Start at is (λ rest. start_end d d rest other (eq-eqb d d refl))

pub ends_bare : (d : ℕ) (old new : LineBegun) → old.place ≡ Bare → (d == 34) ≡ false → new ≡ begun (old.fields ++ old.bytes ∷ []) [] Start → HasRead d d old new
ends_bare d old new at other is = ended d d old new Bare at is (λ rest. bare_end d d rest other (eq-eqb d d refl))

pub ends_behind : (d : ℕ) (old new : LineBegun) → old.place ≡ Behind → (d == 34) ≡ false → new ≡ begun (old.fields ++ old.bytes ∷ []) [] Start → HasRead d d old new
ends_behind d old new at other is = ended d d old new Behind at is (λ rest. behind_end d d rest other (eq-eqb d d refl))
