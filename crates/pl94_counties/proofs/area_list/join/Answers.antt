use Rattle.field_lines.specs.Cut.{Cut}
use Rattle.field_lines.proofs.ReadingLemmas.{reads_start}
use Rattle.pl94_counties.specs.declared.fault.File.TheVariants.{Geo}
use Rattle.pl94_counties.specs.Geo.{rule_of, area_on}
use Rattle.pl94_counties.specs.Areas.{found_list_in}
use Rattle.pl94_counties.proofs.CollectLemmas.{collected_in}
use Rattle.pl94_counties.proofs.ReadersLemmas.{answer_is, line_is, collect_cut, line_more, line_stops, cut_stops}
use Rattle.pl94_counties.proofs.area_list.join.Goals as goal

pub loop-line_number-init : goal.loop-line_number-init
loop-line_number-init g c =
    reads_start (g.L.LinesFrom.left c.args.lines.now) (g.L.LinesFrom.given c.args.from.now) (g.L.LinesFrom.is_failed c.args.from.now) (found_list_in c.args.area c.args.state c.args.records.now.entries)
    (collect_cut (area_on c.args.area c.args.state c.args.records.now.entries) (rule_of c.args.area) Geo c.new-found.result.entries) c.requires.sound c.requires.works
    (λ (cut : Cut). rw c.new-found.ensures.empty (collected_in (area_on c.args.area c.args.state c.args.records.now.entries) (rule_of c.args.area) Geo cut))

pub returns-in-Err-add_line-clause-reads : goal.returns-in-Err-add_line-clause-reads
returns-in-Err-add_line-clause-reads g c =
    let came = answer_is (line_is c.in-Ok-Some.is c.in-Ok-Some.field-0-is) c.next_from.follows.holds-at-none in
    line_stops (area_on c.args.area c.args.state c.args.records.now.entries) (rule_of c.args.area) Geo _ _ _ _ _ _ _ _ (found_list_in c.args.area c.args.state c.args.records.now.entries) _ c.loop-line_number.invariant (c.in-Ok-Some.line_number, c.in-Ok-Some.line) came c.in-Err-add_line.kind c.in-Err-add_line.ensures.adds

pub loop-line_number-preserved : goal.loop-line_number-preserved
loop-line_number-preserved g c =
    let came = answer_is (line_is c.in-Ok-Some.is c.in-Ok-Some.field-0-is) c.next_from.follows.holds-at-none in
    line_more (area_on c.args.area c.args.state c.args.records.now.entries) (rule_of c.args.area) Geo _ _ _ _ _ _ _ _ (found_list_in c.args.area c.args.state c.args.records.now.entries) _ c.loop-line_number.invariant (c.in-Ok-Some.line_number, c.in-Ok-Some.line) came c.add_line.new.found.entries c.in_default.ensures.adds

pub returns-in-Err-clause-reads : goal.returns-in-Err-clause-reads
returns-in-Err-clause-reads g c =
    let came = answer_is c.in-Err.is c.next_from.follows.holds-at-none in
    cut_stops (area_on c.args.area c.args.state c.args.records.now.entries) (rule_of c.args.area) Geo _ _ _ _ _ _ _ _ (found_list_in c.args.area c.args.state c.args.records.now.entries) _ c.loop-line_number.invariant c.in-Err.fault c.of_cut.result c.of_cut.ensures came
