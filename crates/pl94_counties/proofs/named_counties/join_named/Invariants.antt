use Rattle.field_lines.proofs.ReadingLemmas.{ReadsOn}
use Rattle.pl94_counties.proofs.NamedReadersLemmas.{named_cut, named_whole}
use Rattle.pl94_counties.proofs.named_counties.join_named.Given as goal

abbrev pub invariant-loop-number : goal.invariant-loop-number
invariant-loop-number g l =
    ReadsOn (g.L.LinesFrom.left l.fn.lines) (g.L.LinesFrom.given l.fn.from) (named_whole l.state l.records.entries) (g.L.LinesFrom.left l.lines) (g.L.LinesFrom.given l.from) (g.L.LinesFrom.is_failed l.from)
    (named_cut l.state l.records.entries (record { entries = l.people.entries; names = l.names.items }))

abbrev pub decreases-loop-number : goal.decreases-loop-number
decreases-loop-number g l = (g.L.LinesFrom.left l.lines).most
