use Rattle.std.proofs.Common.{◌∙◌, ◌++◌, ℕ, Option, ap, arith}
use Rattle.std.proofs.lemmas.List.{at_drop_all}
use Rattle.grouping_laws.specs.SeatWindow.{seat_run}
use Rattle.county_problem.specs.ProblemValue.{problem_of}
use Rattle.county_problem.specs.Building.{people_in}
use Rattle.grouping_report.specs.SizeTable.{lines_text, county_line}
use Rattle.grouping_report.proofs.Appends.{step_more, step_done, from_read}
use Rattle.grouping_report.proofs.table.push_counties.Goals as goal

pub loop-county-preserved : goal.loop-county-preserved
loop-county-preserved c =
    let county = c.county-item.result in
    let v = c.args.problem.now in
    let ks = c.args.counties.now in
    let i = c.loop-county.county-index in
    let now = c.loop-county.out.items in
    let run = c.seats_range-run.ensures.value ∙ ap (seat_run (problem_of v)) c.from.ensures in
    let people = from_read people_in ks i county c.loop-county-test.true c.county-item.is in
    record {
      so_far =
          step_more now _ _ (c.in_ok-push_county.ensures ∙ ap (λ (r : Option (ℕ × ℕ)). now ++ county_line county.code county.people r) run)
          (from_read (lines_text v) ks i county c.loop-county-test.true c.county-item.is)
          c.loop-county.invariant.so_far;
      whole = omega (arith, people, c.loop-county.invariant.whole);
    }

pub returns : goal.returns
returns c = step_done c.loop-county.out.items (at_drop_all (lines_text c.args.problem.now) c.args.counties.now c.loop-county.county-index c.loop-county-test.false) c.loop-county.invariant.so_far
