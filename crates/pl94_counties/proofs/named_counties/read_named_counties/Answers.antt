use Rattle.std.proofs.Common.{List, Ok, sym, ap, ◌∙◌, subst}
use Rattle.std.specs.List.Sorted.{IsStrictlyIncreasing}
use Rattle.county_codes.specs.declared.county.County.{County}
use Rattle.county_codes.specs.Counties.{codes_of}
use Rattle.pl94_counties.specs.CountyNames.{CountyName}
use Rattle.pl94_counties.specs.NamedReaders.{entries_shown}
use Rattle.pl94_counties.proofs.NamedLemmas.{found_counties, found_named, found_rises, named_stops_list}
use Rattle.pl94_counties.proofs.named_counties.read_named_counties.Goals as goal

pub returns-in-Ok-named-clause-value : goal.returns-in-Ok-named-clause-value
returns-in-Ok-named-clause-value c =
    found_named c.args.geo.now c.args.segment1.now c.args.state (entries_shown c.in-Ok.found) c.requires c.in-Ok.ensures.ascending c.in-Ok.ensures.value
    ∙ ap (λ (ks : List CountyName). Ok ks) (sym c.in-Ok-named.ensures.names)

pub returns-in-Ok-named-clause-agrees : goal.returns-in-Ok-named-clause-agrees
returns-in-Ok-named-clause-agrees c =
    found_counties c.args.geo.now c.args.segment1.now c.args.state (entries_shown c.in-Ok.found) c.requires c.in-Ok.ensures.ascending c.in-Ok.ensures.value
    ∙ ap (λ (ks : List County). Ok ks) (sym c.in-Ok-named.ensures.same)

pub returns-in-Ok-named-clause-ascending : goal.returns-in-Ok-named-clause-ascending
returns-in-Ok-named-clause-ascending c =
    subst (λ (ks : List County). IsStrictlyIncreasing (codes_of ks)) (sym c.in-Ok-named.ensures.same)
    (found_rises c.args.geo.now c.args.segment1.now c.args.state (entries_shown c.in-Ok.found) c.requires c.in-Ok.ensures.ascending c.in-Ok.ensures.value)

pub returns-in-Err-clause-value : goal.returns-in-Err-clause-value
returns-in-Err-clause-value c = λ kept. named_stops_list c.args.geo.now c.args.segment1.now c.args.state c.in-Err.fault (c.in-Err.ensures.value kept)
