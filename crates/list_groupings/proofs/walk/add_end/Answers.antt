use Rattle.std.proofs.Common.{◌≡◌, ◌≤◌, ◌+◌, ℕ, List, map, length, true, false, refl, ap, ◌∙◌, subst, arith}
use Rattle.std.proofs.lemmas.Bool.Decides.{nat_tests}
use Rattle.std.proofs.lemmas.List.{length-map}
use Rattle.county_codes.specs.Limits.{most_counties}
use Rattle.county_codes.specs.declared.county.County.{County}
use Rattle.county_codes.specs.Counties.{codes_of}
use Rattle.grouping_laws.specs.Sets.{sum_by, count_in}
use Rattle.county_problem.specs.CountList.{count_at}
use Rattle.county_problem.specs.ProblemValue.{problem_of}
use Rattle.certificate_data.specs.TreeValue.{allowance_of}
use Rattle.certificate_data.specs.RoundValue.{round_of}
use Rattle.list_laws.specs.Ends.{wanted, falls_short}
use Rattle.grouping_laws.specs.Grouping.{Lawful, sets_of}
use Rattle.grouping_laws.specs.Ranges.{SuitAll}
use Rattle.search_ends.specs.FinishedStates.{CanSeat}
use Rattle.list_laws.specs.AllBest.{SameSets}
use Rattle.list_laws.proofs.LeafEnds.{bound_end}
use Rattle.list_groupings.specs.ListOrder.{IsInOrder}
use Rattle.list_groupings.proofs.WalkLemmas.{none_given, few_waiting, none_left, some_left, covered, short_as, walked_short, walked_end}
use Rattle.list_groupings.proofs.walk.add_end.Goals as goal

pub falls_short-requires-clause-few : goal.falls_short-requires-clause-few
falls_short-requires-clause-few c =
    let r = c.requires.at in
    let few = few_waiting (problem_of c.args.input.now.problem.now) r.0 c.args.position.now r.1.0 in
    let all : length (codes_of c.args.input.now.problem.now.counties) ≤ most_counties = omega (arith, length-map c.args.input.now.problem.now.counties (λ (x : County). x.code), ap (λ (l : List County). length l) c.counties-counties.ensures.value, c.counties-counties.ensures.few) in
    omega (arith, few, all)

pub returns-then-falls_short : goal.returns-then-falls_short
returns-then-falls_short c = record {
  walked = λ s h.
      walked_short (problem_of c.args.input.now.problem.now) (round_of c.args.input.now.round.now) s (count_at c.args.input.now.wanted.now) (map allowance_of c.args.lines.now) c.falls_short.result c.requires.input.wanted_is h.1.proves (c.falls_short.ensures.value (round_of c.args.input.now.round.now).format (problem_of c.args.input.now.problem.now) s h.0) c.args.found.now (record { line = c.args.found.now.line + (1 + length c.args.lines.now); list = c.args.found.now.list }) (omega (arith, length-map c.args.lines.now allowance_of)) c.if-falls_short.true refl;
}

pub returns-then-not-is_empty : goal.returns-then-not-is_empty
returns-then-not-is_empty c = record {
  walked = λ s h.
      let p = problem_of c.args.input.now.problem.now in
      let r = round_of c.args.input.now.round.now in
      let lines = map allowance_of c.args.lines.now in
      let short : falls_short p s (wanted r.target) 1 0 lines ≡ false = short_as p r s (count_at c.args.input.now.wanted.now) lines c.falls_short.result c.requires.input.wanted_is h.1.proves (c.falls_short.ensures.value r.format p s h.0) false c.if-falls_short.false in
      let some : 1 ≤ length c.args.position.now.rest.items = grind (arith, nat_tests) in
      ((bound_end p r s lines short, some_left p s c.args.position.now h.0 some), refl);
}

pub seated_grouping-requires-clause-once : goal.seated_grouping-requires-clause-once
seated_grouping-requires-clause-once c = λ x.
    let p = problem_of c.args.input.now.problem.now in
    let r = round_of c.args.input.now.round.now in
    let h = c.requires.at in
    let none : length c.args.position.now.rest.items ≡ 0 = grind (arith, nat_tests) in
    ap (λ (z : List (List ℕ)). count_in x z) (c.deref.ensures.value ∙ h.1.0.closed) ∙ covered p r h.0 h.1.1.state (none_left p r h.0 c.args.position.now h.1.1.state h.1.0 none) x

pub returns-in_default-seated : goal.returns-in_default-seated
returns-in_default-seated c = record {
  walked = λ s h.
      let p = problem_of c.args.input.now.problem.now in
      let r = round_of c.args.input.now.round.now in
      let lines = map allowance_of c.args.lines.now in
      let short : falls_short p s (wanted r.target) 1 0 lines ≡ false = short_as p r s (count_at c.args.input.now.wanted.now) lines c.falls_short.result c.requires.input.wanted_is h.1.proves (c.falls_short.ensures.value r.format p s h.0) false c.if-falls_short.false in
      let none : length c.args.position.now.rest.items ≡ 0 = grind (arith, nat_tests) in
      let off : (ks : List ℕ) → SuitAll p c.deref.result.now ks → sum_by (λ k. k) ks ≡ p.seats_left → ⊥ = none_given _ c.in-Ok.seated c.in_default-seated.not-Some c.in-Ok.ensures.lawful in
      ((bound_end p r s lines short, (none_left p r s c.args.position.now h.1.state h.0 none, subst (λ (z : List (List ℕ)). (ks : List ℕ) → SuitAll p z ks → sum_by (λ k. k) ks ≡ p.seats_left → ⊥) (c.deref.ensures.value ∙ h.0.closed) off)), refl);
}

pub returns : goal.returns
returns c = record {
  walked = λ s h.
      let p = problem_of c.args.input.now.problem.now in
      let g = c.in-Some.grouping in
      let lawful : Lawful p g.groups.items = rw c.in-Some.is at c.in-Ok.ensures.lawful in
      let filled : CanSeat p c.deref.result.now = rw c.in-Some.is at c.in-Ok.ensures.filled in
      let same : SameSets (sets_of g.groups.items) c.deref.result.now = rw c.in-Some.is at c.in-Ok.ensures.sets in
      let order : IsInOrder g.groups.items = rw c.in-Some.is at c.in-Ok.ensures.in_order in
      let own : c.deref.result.now ≡ s.closed = c.deref.ensures.value ∙ h.0.closed in
      let seats : CanSeat p s.closed = subst (CanSeat p) own filled in
      walked_end p (round_of c.args.input.now.round.now) s (count_at c.args.input.now.wanted.now) (map allowance_of c.args.lines.now) c.falls_short.result c.requires.input.wanted_is h.1.proves (c.falls_short.ensures.value (round_of c.args.input.now.round.now).format p s h.0) c.args.found.now (record { line = c.args.found.now.line + (1 + length c.args.lines.now); list = c.push.new.self }) (omega (arith, length-map c.args.lines.now allowance_of)) c.if-falls_short.false
      (record { none_left = none_left p (round_of c.args.input.now.round.now) s c.args.position.now h.1.state h.0 (grind (arith, nat_tests)); seats_of_closed = seats.0; suit = seats.1; add_up = seats.2 }) g c.in-Ok-push.ensures.items lawful (subst (SameSets (sets_of g.groups.items)) own same) order;
}
