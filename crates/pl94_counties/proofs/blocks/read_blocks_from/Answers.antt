use Rattle.std.proofs.Common.{◌≡◌, ◌<◌, ◌++◌, [], ℕ, List, map, All, Ok, refl, sym, subst}
use Rattle.std.specs.List.Sorted.{IsStrictlyIncreasing}
use Rattle.std.proofs.lemmas.List.Elements.{All-map}
use Rattle.field_lines.specs.Cut.{cut}
use Rattle.pl94_counties.specs.declared.blocks.Block.{Block}
use Rattle.pl94_counties.specs.declared.geo.Area.TheVariants as areas
use Rattle.pl94_counties.specs.Counties.{block_of}
use Rattle.pl94_counties.specs.Areas.{area_list}
use Rattle.pl94_counties.proofs.ListLemmas.{codes_made, blocks_small}
use Rattle.pl94_counties.proofs.LawLemmas.{from_lines}
use Rattle.pl94_counties.proofs.OfTextLemmas.{areas_found}
use Rattle.pl94_counties.proofs.blocks.read_blocks_from.Goals as goal

pub returns-in-Ok-list-clause-ascending : goal.returns-in-Ok-list-clause-ascending
returns-in-Ok-list-clause-ascending g c =
    let entries = c.in-Ok.found.entries in
    let items : c.in-Ok-list.blocks.items ≡ map (λ e. block_of e.0 e.1) entries = c.in-Ok-list.ensures in
    subst (λ (xs : List Block). IsStrictlyIncreasing (map (λ x. x.code) xs)) (sym items)
    (subst (λ (ns : List ℕ). IsStrictlyIncreasing ns) (sym (codes_made block_of (λ x. x.code) (λ n p. refl) entries)) c.in-Ok.ensures.ascending)

pub returns-in-Ok-list-clause-small : goal.returns-in-Ok-list-clause-small
returns-in-Ok-list-clause-small g c =
    let entries = c.in-Ok.found.entries in
    let reads = c.in-Ok.ensures.reads in
    let state = c.args.state in
    let geo = reads.geo ++ [] in
    let segment1 = reads.segment1 ++ [] in
    let value : area_list areas.Block geo segment1 state ≡ Ok entries = reads.value [] [] (λ ended. refl) (λ ended. refl) in
    let f = areas_found areas.Block geo segment1 state entries value in
    let joined = from_lines areas.Block geo segment1 state f.records entries f.records_are f.found_are c.in-Ok.ensures.ascending in
    let items : c.in-Ok-list.blocks.items ≡ map (λ e. block_of e.0 e.1) entries = c.in-Ok-list.ensures in
    subst (λ (xs : List Block). All (λ x. x.code < 1000000000000000) xs) (sym items)
    (All-map (λ (x : Block). x.code < 1000000000000000) (λ (e : ℕ × ℕ). block_of e.0 e.1) entries (blocks_small (cut geo).lines (cut segment1).lines state entries joined))
