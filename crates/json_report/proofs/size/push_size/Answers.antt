use Rattle.std.proofs.Common.{append_assoc}
use Rattle.grouping_laws.specs.SeatWindow.{people_bounds}
use Rattle.county_problem.specs.ProblemValue.{problem_of}
use Rattle.json_report.specs.SizeObject.{bounds_tokens, county_objects}
use Rattle.json_report.proofs.Adding.{token, part, part_of, last_token}
use Rattle.json_report.proofs.size.push_size.Goals as goal

pub returns : goal.returns
returns c =
    let v = c.args.problem.now in
    let bounds = people_bounds (problem_of v) 1 in
    rw (append_assoc (bounds_tokens bounds))
    (part _ c.in_ok-push_answer.ensures
    (part _ c.in_ok-push_first.ensures
    (token c.in_ok-key.ensures
    (part_of bounds_tokens bounds c.district_bounds.ensures.value c.in_ok-push_bounds.ensures
    (token c.in_ok-key-2.ensures
    (token c.in_ok-begin_array.ensures
    (part_of (county_objects v) v.counties c.counties.ensures.value c.in_ok-push_counties.ensures
    (last_token _ c.end_array.ensures)))))))).adds
