use Rattle.pl94_counties.specs.NamedReaders.{entries_shown}
use Rattle.pl94_counties.proofs.OrderLemmas.{cut_in_order}
use Rattle.pl94_counties.proofs.NamedReadersLemmas.{named_texts_value}
use Rattle.pl94_counties.proofs.named_counties.find_in_texts.Goals as goal

pub find_counties-requires-clause-geo_ordered : goal.find_counties-requires-clause-geo_ordered
find_counties-requires-clause-geo_ordered c = cut_in_order c.new-geo_lines.result c.args.geo.now c.new-geo_lines.ensures.lines

pub returns-clause-value : goal.returns-clause-value
returns-clause-value c =
    let read = c.find_counties.ensures in
    named_texts_value c.args.state c.args.geo.now c.args.segment1.now c.new-geo_lines.result c.new-segment1_lines.result entries_shown _ _ _ _ c.find_counties.result c.new-geo_lines.ensures.lines c.new-segment1_lines.ensures.lines read.geo_failed read.segment1_failed read.reads
