use Rattle.std.proofs.Common.{◌≡◌, ℕ, rules, true, List, Option, Some, None, Ok, Err, Bool, if◌then◌else◌, sym, ap, ◌∙◌}
use Rattle.pl94_counties.specs.declared.fault.Pl94Kind.TheVariants.{TooFewFields, NoRecord}
use Rattle.pl94_counties.specs.declared.geo.Area.{Area}
use Rattle.pl94_counties.specs.Fields.{small_number, GeoFields, geo_fields, fields_shown}
use Rattle.pl94_counties.specs.PeopleByCode.{LineEntry, people_at_number}
use Rattle.pl94_counties.specs.Geo.{area_code, is_line_of, joined, area_on}
use Rattle.pl94_counties.proofs.LawLemmas.{joined_of, with_people}
use Rattle.pl94_counties.proofs.geo.area_in.Goals as goal

-- what a line of an area of the state gives, by what its fields spell
given_people : (area : Area) (state : ℕ) (records : List (ℕ × ℕ)) (line : List ℕ) (g : GeoFields) (code number : ℕ) → geo_fields line ≡ Some g → is_line_of area state g ≡ true
    → area_code area state g ≡ Some code → small_number g.record_number ≡ Some number → area_on area state records line ≡ with_people code (people_at_number number records)
unfolding area_on
given_people area state records line g code number has of code_is number_is =
    ap (λ (o : Option GeoFields). elim o as (λ _. LineEntry) [
      | Some g ↦ if is_line_of area state g then joined area state records g else Ok None
      | None ↦ Err TooFewFields
    ]) has
    ∙ ap (λ (b : Bool). if b then joined area state records g else Ok None) of
    ∙ ap (λ (k : Option ℕ). joined_of records k (small_number g.record_number)) code_is
    ∙ ap (λ (m : Option ℕ). joined_of records (Some code) m) number_is

pub returns-in_err-people : goal.returns-in_err-people
returns-in_err-people c =
    let read : people_at_number c.in_ok-number.number c.args.records.now.entries ≡ c.copied.result = cc in
    let none : c.copied.result ≡ None = search rules in
    let is : c.from_residual-in_err-people.result ≡ Err NoRecord = search rules in
    is ∙ sym (given_people c.args.area c.args.state c.args.records.now.entries c.args.line.now (fields_shown c.in_ok-line.line) c.in_ok-code.code c.in_ok-number.number (search rules) (search rules) (search rules) (search rules) ∙ ap (λ (q : Option ℕ). with_people c.in_ok-code.code q) (read ∙ none))

pub returns : goal.returns
returns c =
    let read : people_at_number c.in_ok-number.number c.args.records.now.entries ≡ c.copied.result = cc in
    let some : c.copied.result ≡ Some c.in_ok-people.people = search rules in
    sym (given_people c.args.area c.args.state c.args.records.now.entries c.args.line.now (fields_shown c.in_ok-line.line) c.in_ok-code.code c.in_ok-number.number (search rules) (search rules) (search rules) (search rules) ∙ ap (λ (q : Option ℕ). with_people c.in_ok-code.code q) (read ∙ some))
