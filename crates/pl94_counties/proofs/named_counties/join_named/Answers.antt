use Rattle.pl94_counties.proofs.ReadersLemmas.{answer_is, line_is}
use Rattle.pl94_counties.proofs.NamedReadersLemmas.{no_entries, named_start, named_more, named_stops, named_cut_stops}
use Rattle.pl94_counties.proofs.named_counties.join_named.Goals as goal

pub loop-number-init : goal.loop-number-init
loop-number-init g c =
    named_start c.args.state c.args.records.now.entries (g.L.LinesFrom.left c.args.lines.now) (g.L.LinesFrom.given c.args.from.now) (g.L.LinesFrom.is_failed c.args.from.now)
    c.requires.sound c.requires.works c.requires.ordered _ (no_entries c.new-people.ensures.empty c.new-names.ensures.items)

pub returns-in-Err-add_named_line-clause-reads : goal.returns-in-Err-add_named_line-clause-reads
returns-in-Err-add_named_line-clause-reads g c =
    let came = answer_is (line_is c.in-Ok-Some.is c.in-Ok-Some.field-0-is) c.next_from.follows.holds-at-none in
    named_stops c.args.state c.args.records.now.entries _ _ _ _ _ _ _ _ (record { entries = c.loop-number.people.entries; names = c.loop-number.names.items }) c.loop-number.invariant (c.in-Ok-Some.number, c.in-Ok-Some.line) came c.in-Err-add_named_line.fault c.in-Err-add_named_line.ensures.adds

pub loop-number-preserved : goal.loop-number-preserved
loop-number-preserved g c =
    let came = answer_is (line_is c.in-Ok-Some.is c.in-Ok-Some.field-0-is) c.next_from.follows.holds-at-none in
    named_more c.args.state c.args.records.now.entries _ _ _ _ _ _ _ _ (record { entries = c.loop-number.people.entries; names = c.loop-number.names.items }) c.loop-number.invariant (c.in-Ok-Some.number, c.in-Ok-Some.line) came (record { entries = c.add_named_line.new.people.entries; names = c.add_named_line.new.names.items }) c.in_default.ensures.adds

pub returns-in-Err-clause-reads : goal.returns-in-Err-clause-reads
returns-in-Err-clause-reads g c =
    let came = answer_is c.in-Err.is c.next_from.follows.holds-at-none in
    named_cut_stops c.args.state c.args.records.now.entries _ _ _ _ _ _ _ _ (record { entries = c.loop-number.people.entries; names = c.loop-number.names.items }) c.loop-number.invariant c.in-Err.fault c.of_cut.result c.of_cut.ensures came
