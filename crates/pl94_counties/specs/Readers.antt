-- What reading the files from their sources answers.
use Rattle.std.specs.Prelude.{◌≡◌, ◌⊎◌, ◌&&◌, ◌++◌, ℕ, Bool, true, false, List, Result, Ok, Err}
use Rattle.field_lines.specs.Source.{Given}
use Rattle.field_lines.specs.HeldBytes.{MayCome}
use Rattle.field_lines.specs.Values.{GivesUnless}
use Rattle.field_lines.specs.declared.fault.LineFault.TheVariants.{ReadFault}
use Rattle.pl94_counties.specs.PeopleByCode.{IsPl94Memory}
use Rattle.pl94_counties.specs.declared.fault.Pl94Kind.{Pl94Kind}
use Rattle.pl94_counties.specs.declared.fault.Pl94Kind.TheVariants.{Lower}
use Rattle.pl94_counties.specs.declared.fault.File.{File}
use Rattle.pl94_counties.specs.declared.fault.File.TheVariants.{Geo, Segment1}
use Rattle.pl94_counties.specs.declared.fault.Pl94Fault.{Pl94Fault}

-- whether a line could not be read
abbrev pub is_pl94_read_fault : Pl94Kind → Bool
is_pl94_read_fault (Lower (ReadFault number)) = true
is_pl94_read_fault _ = false

-- whether both are the same file
abbrev pub same_file : File → File → Bool
same_file Geo Geo = true
same_file Segment1 Segment1 = true
same_file _ _ = false

-- whether an answer is that this file could not be read
abbrev pub read_failed : {X : Type 0} → File → Result X Pl94Fault → Bool
read_failed file (Ok x) = false
read_failed file (Err fault) = is_pl94_read_fault fault.kind && same_file file fault.file

-- memory was refused, or a file could not be read
abbrev pub IsPl94Refused : Pl94Fault → Type 0
IsPl94Refused fault = IsPl94Memory fault ⊎ (is_pl94_read_fault fault.kind ≡ true)

-- What is answered for two sources, which gave bytes meanwhile: a value or a fault, it is that of each pair of texts
-- which begin with these bytes, unless it was refused.
pub record ReadsBoth {X Y : Type 0} (view : X → Y) (geo_before geo_after segment1_before segment1_after : Given)
    (answer : Result X Pl94Fault) (given : List ℕ → List ℕ → Result Y Pl94Fault) : Type 0 where
  pub geo : List ℕ
  pub segment1 : List ℕ
  pub geo_given : geo_after.bytes ≡ geo_before.bytes ++ geo
  pub segment1_given : segment1_after.bytes ≡ segment1_before.bytes ++ segment1
  pub value : (geo_later segment1_later : List ℕ) → MayCome geo_after.ended geo_later
      → MayCome segment1_after.ended segment1_later
      → GivesUnless IsPl94Refused view answer (given (geo ++ geo_later) (segment1 ++ segment1_later))

-- What a reading of two sources comes to: they gave bytes meanwhile, and this holds of each pair of texts which begin
-- with these bytes.
pub record ReadsTexts (geo_before geo_after segment1_before segment1_after : Given)
    (Holds : List ℕ → List ℕ → Type 0) : Type 0 where
  pub geo : List ℕ
  pub segment1 : List ℕ
  pub geo_given : geo_after.bytes ≡ geo_before.bytes ++ geo
  pub segment1_given : segment1_after.bytes ≡ segment1_before.bytes ++ segment1
  pub holds : (geo_later segment1_later : List ℕ) → MayCome geo_after.ended geo_later
      → MayCome segment1_after.ended segment1_later → Holds (geo ++ geo_later) (segment1 ++ segment1_later)
