use Rattle.std.proofs.Common.{Ok}
use Rattle.pl94_counties.specs.declared.geo.Area.TheVariants as areas
use Rattle.pl94_counties.specs.Areas.{area_list}
use Rattle.pl94_counties.specs.Counties.{county_list}
use Rattle.pl94_counties.proofs.ListedLemmas.{counties_listed}
use Rattle.pl94_counties.proofs.ReadersLemmas.{reads_give}
use Rattle.pl94_counties.proofs.counties.read_counties_from.Goals as goal

pub returns-in-Ok-list-clause-reads : goal.returns-in-Ok-list-clause-reads
returns-in-Ok-list-clause-reads g c =
    reads_give (λ m. m.entries) (λ v. v.items) _ _ _ _ (Ok c.in-Ok.found) (Ok c.in-Ok-list.counties) (λ x y. area_list areas.County x y c.args.state) (λ x y. county_list x y c.args.state)
    (λ x y is. counties_listed x y c.args.state c.in-Ok.found.entries c.in-Ok-list.counties.items c.requires.digits c.in-Ok.ensures.ascending is c.in-Ok-list.ensures) c.in-Ok.ensures.reads
