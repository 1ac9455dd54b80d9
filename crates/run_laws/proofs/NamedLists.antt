-- Lists of counties with their names, and the lists without.
use Rattle.std.proofs.Common.{◌≡◌, ℕ, List, [], ◌∷◌, Option, Some, None, refl, sym, ap, ◌∙◌}
use Rattle.std.specs.Prelude.{Result, Ok, Err}
use Rattle.std.specs.Result.{result_map_both}
use Rattle.county_codes.specs.declared.county.County.{County}
use Rattle.field_lines.specs.Cut.{Line, cut}
use Rattle.pl94_counties.specs.declared.fault.Pl94Fault.{Pl94Fault}
use Rattle.pl94_counties.specs.declared.county_names.NamedFault.{NamedFault}
use Rattle.pl94_counties.specs.declared.county_names.NamedFault.TheVariants.{BadName}
use Rattle.pl94_counties.specs.CodeNames.{CodeName}
use Rattle.pl94_counties.specs.Counties.{county_list}
use Rattle.pl94_counties.specs.CountyNames.{CountyName, names_on, bad_name, with_names, unless_bad, named_by_lines}
use Rattle.pl94_counties.specs.CountyNames.{named_list}
use Rattle.people_table.specs.Listed.{people_list, named_people_list}
use Rattle.people_table.specs.declared.fault.PeopleFault.{PeopleFault}
use Rattle.grouping_table.specs.Table.{unnamed_counties as without_names}

-- names don't change the counties
same_counties : (names : List CodeName) (counties : List County) → without_names (with_names names counties) ≡ counties
same_counties names [] = refl
same_counties names (c ∷ cs) = ap (λ (rest : List County). c ∷ rest) (same_counties names cs)

found_all : (bad : Option ℕ) (found named : List CountyName) → unless_bad bad found ≡ Ok named → found ≡ named
found_all None found named is = cc
found_all (Some number) found named is = let no : Err (BadName number) ≡ Ok named = is in cc

bad_alone : (bad : Option ℕ) (found : List CountyName) (fault : NamedFault) → unless_bad bad found ≡ Err fault → (line : ℕ) × (fault ≡ BadName line)
bad_alone None found fault is = let no : Ok found ≡ Err fault = is in cc
bad_alone (Some number) found fault is = (number, cc)

module _ (lines : List Line) (state : ℕ) where
  by_lines : (listed : Result (List County) Pl94Fault) (named : List CountyName) → named_by_lines lines state listed ≡ Ok named → listed ≡ Ok (without_names named)
  by_lines (Ok counties) named is =
      let found = found_all (bad_name state lines) (with_names (names_on state lines) counties) named is in
      ap (λ (cs : List County). Ok cs) (sym (same_counties (names_on state lines) counties) ∙ ap without_names found)
  by_lines (Err fault) named is = cc

  fault_by_lines : (listed : Result (List County) Pl94Fault) (counties : List County) (fault : NamedFault) → listed ≡ Ok counties → named_by_lines lines state listed ≡ Err fault
      → (line : ℕ) × (fault ≡ BadName line)
  fault_by_lines (Ok given) counties fault some is = bad_alone (bad_name state lines) (with_names (names_on state lines) given) fault is
  fault_by_lines (Err other) counties fault some is = let no : Err other ≡ Ok counties = some in absurd (cc no)

-- counties that are read with their names are read without them
pub counties_named : (geo segment : List ℕ) (state : ℕ) (named : List CountyName) → named_list geo segment state ≡ Ok named → county_list geo segment state ≡ Ok (without_names named)
counties_named geo segment state named is = by_lines (cut geo).lines state (county_list geo segment state) named is

-- if counties are read without names, only a name can be at fault
pub name_at_fault : (geo segment : List ℕ) (state : ℕ) (counties : List County) (fault : NamedFault) → county_list geo segment state ≡ Ok counties → named_list geo segment state ≡ Err fault
    → (line : ℕ) × (fault ≡ BadName line)
name_at_fault geo segment state counties fault some is = fault_by_lines (cut geo).lines state (county_list geo segment state) counties fault some is

-- the same of a table of counties
pub people_named : (table : List ℕ) (state : ℕ) (named : List CountyName) → named_people_list table state ≡ Ok named → people_list table state ≡ Ok (without_names named)
people_named table state named is = ap (result_map_both without_names (λ (fault : PeopleFault). fault)) is

-- a table of which no line is at fault has no fault where its names are read
pub people_at_fault : (table : List ℕ) (state : ℕ) (counties : List County) (fault : PeopleFault) → people_list table state ≡ Ok counties → named_people_list table state ≡ Err fault → ⊥
people_at_fault table state counties fault some is =
    let no : Ok counties ≡ Err fault = sym some ∙ ap (result_map_both without_names (λ (f : PeopleFault). f)) is in
    cc no
