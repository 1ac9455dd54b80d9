use Rattle.field_lines.proofs.ReadingLemmas.{ReadsOn}
use Rattle.pl94_counties.specs.declared.fault.File.TheVariants.{Geo}
use Rattle.pl94_counties.specs.Geo.{rule_of, area_on}
use Rattle.pl94_counties.specs.Areas.{found_list_in}
use Rattle.pl94_counties.proofs.ReadersLemmas.{collect_cut}
use Rattle.pl94_counties.proofs.area_list.join.Given as goal

abbrev pub invariant-loop-line_number : goal.invariant-loop-line_number
invariant-loop-line_number g l =
    ReadsOn (g.L.LinesFrom.left l.fn.lines) (g.L.LinesFrom.given l.fn.from) (found_list_in l.area l.state l.records.entries) (g.L.LinesFrom.left l.lines) (g.L.LinesFrom.given l.from) (g.L.LinesFrom.is_failed l.from)
    (collect_cut (area_on l.area l.state l.records.entries) (rule_of l.area) Geo l.found.entries)

abbrev pub decreases-loop-line_number : goal.decreases-loop-line_number
decreases-loop-line_number g l = (g.L.LinesFrom.left l.lines).most
