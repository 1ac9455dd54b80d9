use Rattle.std.proofs.Common.{Ok, Err}
use Rattle.pl94_counties.proofs.OfTextLemmas.{of_areas, areas_found}
use Rattle.pl94_counties.proofs.LawLemmas.{from_lines, each_line}
use Rattle.pl94_counties.proofs.ReadersLemmas.{texts_value}
use Rattle.pl94_counties.proofs.area_list.read_areas.Goals as goal

pub returns-clause-value : goal.returns-clause-value
returns-clause-value c = texts_value c.args.area c.args.state c.args.geo.now c.args.segment1.now _ _ (λ m. m.entries) _ _ _ _ (Err c.in-Err.fault) c.new-geo_lines.ensures.lines c.new-segment1_lines.ensures.lines c.in-Err.ensures.geo_failed c.in-Err.ensures.segment1_failed c.in-Err.ensures.reads

pub returns-clause-of_text : goal.returns-clause-of_text
returns-clause-of_text c =
    of_areas c.args.area c.args.geo.now c.args.segment1.now c.args.state c.in-Err.fault (texts_value c.args.area c.args.state c.args.geo.now c.args.segment1.now _ _ (λ m. m.entries) _ _ _ _ (Err c.in-Err.fault) c.new-geo_lines.ensures.lines c.new-segment1_lines.ensures.lines c.in-Err.ensures.geo_failed c.in-Err.ensures.segment1_failed c.in-Err.ensures.reads)

pub returns-in-Ok-clause-value : goal.returns-in-Ok-clause-value
returns-in-Ok-clause-value c = texts_value c.args.area c.args.state c.args.geo.now c.args.segment1.now _ _ (λ m. m.entries) _ _ _ _ (Ok c.in-Ok.found) c.new-geo_lines.ensures.lines c.new-segment1_lines.ensures.lines c.in-Ok.ensures.geo_failed c.in-Ok.ensures.segment1_failed c.in-Ok.ensures.reads

pub returns-in-Ok-clause-from_lines : goal.returns-in-Ok-clause-from_lines
returns-in-Ok-clause-from_lines c =
    let entries = c.in-Ok.found.entries in
    let f = areas_found c.args.area c.args.geo.now c.args.segment1.now c.args.state entries (texts_value c.args.area c.args.state c.args.geo.now c.args.segment1.now _ _ (λ m. m.entries) _ _ _ _ (Ok c.in-Ok.found) c.new-geo_lines.ensures.lines c.new-segment1_lines.ensures.lines c.in-Ok.ensures.geo_failed c.in-Ok.ensures.segment1_failed c.in-Ok.ensures.reads) in
    from_lines c.args.area c.args.geo.now c.args.segment1.now c.args.state f.records entries f.records_are f.found_are c.in-Ok.ensures.ascending

pub returns-in-Ok-clause-each_line : goal.returns-in-Ok-clause-each_line
returns-in-Ok-clause-each_line c =
    let entries = c.in-Ok.found.entries in
    let f = areas_found c.args.area c.args.geo.now c.args.segment1.now c.args.state entries (texts_value c.args.area c.args.state c.args.geo.now c.args.segment1.now _ _ (λ m. m.entries) _ _ _ _ (Ok c.in-Ok.found) c.new-geo_lines.ensures.lines c.new-segment1_lines.ensures.lines c.in-Ok.ensures.geo_failed c.in-Ok.ensures.segment1_failed c.in-Ok.ensures.reads) in
    each_line c.args.area c.args.geo.now c.args.segment1.now c.args.state f.records entries f.records_are f.found_are
