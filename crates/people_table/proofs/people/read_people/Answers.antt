use Rattle.std.proofs.Common.{◌≡◌, List, Result, Ok, map, sym, ap, ◌∙◌}
use Rattle.std.specs.Result.{result_map_both}
use Rattle.county_codes.specs.declared.county.County.{County}
use Rattle.pl94_counties.specs.CountyNames.{CountyName}
use Rattle.people_table.specs.declared.fault.PeopleFault.{PeopleFault}
use Rattle.people_table.proofs.TableLaws.{counties_are_of_table}
use Rattle.people_table.proofs.people.read_people.Goals as goal

pub returns-in-Ok-counties-clause-are : goal.returns-in-Ok-counties-clause-are
returns-in-Ok-counties-clause-are c =
    let same : c.in-Ok-counties.counties.items ≡ map (λ (k : CountyName). k.county) c.in-Ok.found.items =
    c.in-Ok-counties.ensures ∙ ap (λ (l : List CountyName). map (λ (k : CountyName). k.county) l) c.deref.ensures.value in
    counties_are_of_table c.args.table.now c.args.state c.in-Ok-counties.counties.items
    (ap (λ (r : Result (List CountyName) PeopleFault). result_map_both (λ named. map (λ k. k.county) named) (λ fault. fault) r) c.in-Ok.ensures
    ∙ ap (λ (cs : List County). Ok cs) (sym same))
