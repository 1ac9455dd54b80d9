use Rattle.field_lines.specs.Cut.{Cut}
use Rattle.field_lines.proofs.ReadingLemmas.{reads_start}
use Rattle.pl94_counties.specs.declared.fault.File.TheVariants.{Segment1}
use Rattle.pl94_counties.specs.Segment.{record_on, record_rule, record_list_in}
use Rattle.pl94_counties.proofs.CollectLemmas.{collected_in}
use Rattle.pl94_counties.proofs.ReadersLemmas.{answer_is, line_is, collect_cut, line_more, line_stops, cut_stops}
use Rattle.pl94_counties.proofs.segment.read_records.Goals as goal

pub loop-line_number-init : goal.loop-line_number-init
loop-line_number-init g c =
    reads_start (g.L.LinesFrom.left c.args.lines.now) (g.L.LinesFrom.given c.args.from.now) (g.L.LinesFrom.is_failed c.args.from.now) record_list_in
    (collect_cut record_on record_rule Segment1 c.new-records.result.entries) c.requires.sound c.requires.works
    (λ (cut : Cut). rw c.new-records.ensures.empty (collected_in record_on record_rule Segment1 cut))

pub returns-in-Err-add_record-clause-reads : goal.returns-in-Err-add_record-clause-reads
returns-in-Err-add_record-clause-reads g c =
    let came = answer_is (line_is c.in-Ok-Some.is c.in-Ok-Some.field-0-is) c.next_from.follows.holds-at-none in
    line_stops record_on record_rule Segment1 _ _ _ _ _ _ _ _ record_list_in _ c.loop-line_number.invariant (c.in-Ok-Some.line_number, c.in-Ok-Some.line) came c.in-Err-add_record.kind c.in-Err-add_record.ensures.adds

pub loop-line_number-preserved : goal.loop-line_number-preserved
loop-line_number-preserved g c =
    let came = answer_is (line_is c.in-Ok-Some.is c.in-Ok-Some.field-0-is) c.next_from.follows.holds-at-none in
    line_more record_on record_rule Segment1 _ _ _ _ _ _ _ _ record_list_in _ c.loop-line_number.invariant (c.in-Ok-Some.line_number, c.in-Ok-Some.line) came c.add_record.new.records.entries c.in_default.ensures.adds

pub returns-in-Err-clause-reads : goal.returns-in-Err-clause-reads
returns-in-Err-clause-reads g c =
    let came = answer_is c.in-Err.is c.next_from.follows.holds-at-none in
    cut_stops record_on record_rule Segment1 _ _ _ _ _ _ _ _ record_list_in _ c.loop-line_number.invariant c.in-Err.fault c.of_cut.result c.of_cut.ensures came
