use Rattle.field_lines.proofs.ReadingLemmas.{ReadsOn}
use Rattle.pl94_counties.specs.declared.fault.File.TheVariants.{Segment1}
use Rattle.pl94_counties.specs.Segment.{record_on, record_rule, record_list_in}
use Rattle.pl94_counties.proofs.ReadersLemmas.{collect_cut}
use Rattle.pl94_counties.proofs.segment.read_records.Given as goal

abbrev pub invariant-loop-line_number : goal.invariant-loop-line_number
invariant-loop-line_number g l =
    ReadsOn (g.L.LinesFrom.left l.fn.lines) (g.L.LinesFrom.given l.fn.from) record_list_in (g.L.LinesFrom.left l.lines) (g.L.LinesFrom.given l.from) (g.L.LinesFrom.is_failed l.from) (collect_cut record_on record_rule Segment1 l.records.entries)

abbrev pub decreases-loop-line_number : goal.decreases-loop-line_number
decreases-loop-line_number g l = (g.L.LinesFrom.left l.lines).most
