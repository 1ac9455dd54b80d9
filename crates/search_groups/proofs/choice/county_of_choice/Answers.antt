use Rattle.std.proofs.Common.{◌∙◌, sym}
use Rattle.search_groups.proofs.Covered.{covered_group, covered_choice}
use Rattle.search_groups.proofs.choice.county_of_choice.Goals as goal

pub returns-in-Some : goal.returns-in-Some
returns-in-Some g c =
    let test = g.C.CountySet.test in
    let heavy = c.heavy_places-heavy.ensures c.in-Some.place c.in-Some.ensures in
    covered_group g.row.C.Denot test c.args.groups.now (test c.in_ok-covered.covered) c.in_ok-covered.ensures c.in-Some.place (sym (c.in_ok-copy.ensures.places c.in-Some.place) ∙ heavy)

pub returns : goal.returns
returns g c =
    let test = g.C.CountySet.test in
    covered_choice g.row.C.Denot test c.args.groups.now (test c.in_ok-covered.covered) c.in_ok-covered.ensures c.fewest_groups-in-None.result c.fewest_groups-in-None.ensures
