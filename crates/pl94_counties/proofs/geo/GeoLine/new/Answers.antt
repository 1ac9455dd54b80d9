use Rattle.std.proofs.Common.{List, ℕ, drop, Some, None, option_map, refl, sym, ap, ◌∙◌}
use Rattle.field_lines.specs.Fields.{fields_of}
use Rattle.pl94_counties.specs.Fields.{fields_shown}
use Rattle.pl94_counties.proofs.FieldLemmas.{left_of, taken_from, geo_fields_fewer, geo_fields_taken}
use Rattle.pl94_counties.proofs.geo.GeoLine.new.Goals as goal

pub returns-in_err-state : goal.returns-in_err-state
returns-in_err-state c =
    let fields : List (List ℕ) = fields_of 124 c.args.line.now in
    let start = c.new-fields.ensures.fields in
    let left = left_of fields _ _ _ _ _ (c.in_ok-level.ensures.rest ∙ ap (λ l. drop 3 l) start) c.in_ok-component.ensures.rest c.in_ok-record_number.ensures.rest c.in_ok-geocode.ensures.rest refl in
    ap (λ g. option_map fields_shown g) c.from_residual-in_err-state.ensures ∙ sym (geo_fields_fewer c.args.line.now _ _ _ _
    (taken_from 0 2 fields _ _ c.in_ok-level.ensures.field start)
    (taken_from 3 1 fields _ _ c.in_ok-component.ensures.field left.third)
    (taken_from 5 2 fields _ _ c.in_ok-record_number.ensures.field left.fifth)
    (taken_from 8 1 fields _ _ c.in_ok-geocode.ensures.field left.eighth)
    (taken_from 10 2 fields _ _ c.in_err-state.ensures.field left.tenth))

pub returns-in_err-county : goal.returns-in_err-county
returns-in_err-county c =
    ap (λ g. option_map fields_shown g) c.from_residual-in_err-county.ensures ∙ sym (geo_fields_taken c.args.line.now _ _ _ _ _ None _ _ _ _ _ _ c.new-fields.ensures.fields c.in_ok-level.ensures.field c.in_ok-level.ensures.rest c.in_ok-component.ensures.field c.in_ok-component.ensures.rest c.in_ok-record_number.ensures.field c.in_ok-record_number.ensures.rest
    c.in_ok-geocode.ensures.field c.in_ok-geocode.ensures.rest c.in_ok-state.ensures.field c.in_ok-state.ensures.rest c.in_err-county.ensures.field)

pub returns : goal.returns
returns c =
    sym (geo_fields_taken c.args.line.now _ _ _ _ _ (Some c.in_ok-county.county.now) _ _ _ _ _ _ c.new-fields.ensures.fields c.in_ok-level.ensures.field c.in_ok-level.ensures.rest c.in_ok-component.ensures.field c.in_ok-component.ensures.rest c.in_ok-record_number.ensures.field c.in_ok-record_number.ensures.rest
    c.in_ok-geocode.ensures.field c.in_ok-geocode.ensures.rest c.in_ok-state.ensures.field c.in_ok-state.ensures.rest c.in_ok-county.ensures.field)
