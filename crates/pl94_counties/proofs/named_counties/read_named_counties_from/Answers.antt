use Rattle.std.proofs.Common.{◌≡◌, ◌++◌, List, [], Ok, map, sym, ap, ◌∙◌, refl, subst}
use Rattle.std.specs.List.Sorted.{IsStrictlyIncreasing}
use Rattle.county_codes.specs.declared.county.County.{County}
use Rattle.county_codes.specs.Counties.{codes_of}
use Rattle.pl94_counties.specs.Counties.{county_list}
use Rattle.pl94_counties.specs.CountyNames.{CountyName, county_name, named_list}
use Rattle.pl94_counties.specs.NamedReaders.{entries_shown}
use Rattle.pl94_counties.proofs.NamedLemmas.{found_counties, found_named, found_rises}
use Rattle.pl94_counties.proofs.NamedReadersLemmas.{texts_as}
use Rattle.pl94_counties.proofs.named_counties.read_named_counties_from.Goals as goal

pub returns-in-Ok-named-clause-reads : goal.returns-in-Ok-named-clause-reads
returns-in-Ok-named-clause-reads g c =
    let found = entries_shown c.in-Ok.found in
    texts_as _ _ _ _ _ (λ x y. named_list x y c.args.state ≡ Ok (map county_name c.in-Ok-named.named.items))
    (λ x y is. found_named x y c.args.state found c.requires.digits c.in-Ok.ensures.ascending is ∙ ap (λ (ks : List CountyName). Ok ks) (sym c.in-Ok-named.ensures.names)) c.in-Ok.ensures.reads

pub returns-in-Ok-named-clause-agrees : goal.returns-in-Ok-named-clause-agrees
returns-in-Ok-named-clause-agrees g c =
    let found = entries_shown c.in-Ok.found in
    texts_as _ _ _ _ _ (λ x y. county_list x y c.args.state ≡ Ok (map (λ k. k.county) c.in-Ok-named.named.items))
    (λ x y is. found_counties x y c.args.state found c.requires.digits c.in-Ok.ensures.ascending is ∙ ap (λ (ks : List County). Ok ks) (sym c.in-Ok-named.ensures.same)) c.in-Ok.ensures.reads

pub returns-in-Ok-named-clause-ascending : goal.returns-in-Ok-named-clause-ascending
returns-in-Ok-named-clause-ascending g c =
    let reads = c.in-Ok.ensures.reads in
    subst (λ (ks : List County). IsStrictlyIncreasing (codes_of ks)) (sym c.in-Ok-named.ensures.same)
    (found_rises (reads.geo ++ []) (reads.segment1 ++ []) c.args.state (entries_shown c.in-Ok.found) c.requires.digits c.in-Ok.ensures.ascending (reads.holds [] [] (λ ended. refl) (λ ended. refl)))
