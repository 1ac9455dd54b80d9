use Rattle.std.proofs.Common.{Vec, Global, map, ◌∙◌}
use Rattle.field_lines.specs.Source.{Given}
use Rattle.pl94_counties.specs.declared.county_names.NamedCounty.{NamedCounty}
use Rattle.pl94_counties.specs.CountyNames.{county_name, named_list}
use Rattle.run_laws.specs.TableSteps.{named_counties_in}
use Rattle.cli.proofs.ReaderLemmas.{back_refused, named_census_came, sound_read}
use Rattle.cli.proofs.input.census_files.load_named_census.Goals as goal

pub returns-in_err-give_both_back-clause-steps : goal.returns-in_err-give_both_back-clause-steps
returns-in_err-give_both_back-clause-steps g c =
    back_refused g.H.FileStore.contents g.H.FileStore.history c.args.census.geo.now c.args.census.segment.now (λ (v : Vec NamedCounty Global). map county_name v.items) (λ (given : Given × Given). named_counties_in c.args.state given.0 given.1) _ _ _
    c.open_both.ensures.same c.in_ok-geo.ensures.opened c.from_residual-in_err-give_both_back.result c.in_err-give_both_back.field-0.0 c.from_residual-in_err-give_both_back.ensures.1 c.in_err-give_both_back.ensures.back

pub returns-clause-steps : goal.returns-clause-steps
returns-clause-steps g c =
    named_census_came g.H.FileStore.contents g.H.FileStore.history c.args.census.geo.now c.args.census.segment.now (λ (v : Vec NamedCounty Global). map county_name v.items) (λ (given : Given × Given). named_counties_in c.args.state given.0 given.1) _ _ _
    c.open_both.ensures.same c.in_ok-geo.ensures.opened _ _ c.named_read.result c.in_ok-give_both_back.ensures.back (λ u v. named_list u v c.args.state) _ _ _ _ c.read_named_counties_from-read.result (c.new-geo.ensures.given ∙ c.in_ok-geo.ensures.given.0) (c.new-segment.ensures.given ∙ c.in_ok-geo.ensures.given.1)
    c.read_named_counties_from-read.ensures.reads c.into_parts-geo_reader.ensures.given c.into_parts-segment_reader.ensures.given (sound_read c.read_named_counties_from-read.ensures.geo_failed c.into_parts-geo_reader.ensures.failed c.in_ok-give_both_back.ensures.geo_sound)
    (sound_read c.read_named_counties_from-read.ensures.segment1_failed c.into_parts-segment_reader.ensures.failed c.in_ok-give_both_back.ensures.segment_sound) (c.named_read.ensures c.args.state _ _ _)
