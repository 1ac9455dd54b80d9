use Rattle.std.proofs.Common.{List, Ok, map, sym, ap, ◌∙◌}
use Rattle.pl94_counties.specs.CountyNames.{CountyName, county_name}
use Rattle.people_table.proofs.TableLaws.{named_are_of_table}
use Rattle.people_table.proofs.people.read_named_people.Goals as goal

pub returns-in-Ok-named_counties-clause-are : goal.returns-in-Ok-named_counties-clause-are
returns-in-Ok-named_counties-clause-are c =
    named_are_of_table c.args.table.now c.args.state (map county_name c.in-Ok-named_counties.named.items)
    (c.in-Ok.ensures ∙ ap (λ (ks : List CountyName). Ok ks) (sym (c.in-Ok-named_counties.ensures ∙ c.deref.ensures.value)))
