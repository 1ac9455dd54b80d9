use Rattle.std.proofs.Common.{◌<◌, arith, inl, refl, ap, ◌∙◌, subst, sym, length}
use Rattle.grouping_laws.specs.Problem.{Suits}
use Rattle.grouping_laws.specs.SeatWindow.{IsRun, seat_run}
use Rattle.grouping_laws.proofs.WindowLemmas.{window_law}
use Rattle.county_problem.specs.ProblemValue.{ProblemValue, problem_of}
use Rattle.county_problem.specs.OrderedValue.{problem_at}
use Rattle.state_groups.specs.StateValue.{state_of}
use Rattle.state_groups.proofs.StuckLemmas.{stuck_by, one_suits, none_suits}
use Rattle.state_groups.proofs.stuck_parts.is_stuck.Goals as goal

pub returns : goal.returns
returns g c =
    let test = g.C.CountySet.test in
    let p = problem_at c.args.ordered.now in
    let n = length c.args.ordered.now.order in
    let t = test c.args.part.now in
    let people = c.people_in-people.result in
    let problem = c.places-places.ensures.problem in
    let law : IsRun (Suits p people) c.seats_range.result =
    subst (IsRun (Suits p people)) (sym (c.seats_range.ensures.value ∙ ap (λ (v : ProblemValue). seat_run (problem_of v) people) c.problem.ensures.value)) (window_law p problem.tolerated problem.some_people people) in
    let k = one_suits p people c.seats_range.result law c.if-is_none.ensures in
    stuck_by p (state_of test c.args.state.now) n c.size.result t c.asks_more.result k.0 c.requires.below (c.size.ensures.count n c.requires.below) (subst (λ z. Suits p z k.0) c.people_in-people.ensures.value k.1) c.asks_more.ensures

pub people_in-people-requires : goal.people_in-people-requires
people_in-people-requires g c = record { below = c.requires.below }

pub seats_range-requires : goal.seats_range-requires
seats_range-requires g c = omega (arith, c.people_in-people.ensures.bound, ap (λ (v : ProblemValue). v.total_people) c.problem.ensures.value)

pub returns-then-is_none : goal.returns-then-is_none
returns-then-is_none g c =
    let p = problem_at c.args.ordered.now in
    let people = c.people_in-people.result in
    let problem = c.places-places.ensures.problem in
    let law : IsRun (Suits p people) c.seats_range.result =
    subst (IsRun (Suits p people)) (sym (c.seats_range.ensures.value ∙ ap (λ (v : ProblemValue). seat_run (problem_of v) people) c.problem.ensures.value)) (window_law p problem.tolerated problem.some_people people) in
    (λ e. inl (λ k h. none_suits p people c.seats_range.result law c.if-is_none.ensures k (subst (λ z. Suits p z k) (sym c.people_in-people.ensures.value) h)), λ h. refl)

pub asks_more-requires : goal.asks_more-requires
asks_more-requires g c = record { below = λ x e. subst (λ m. x < m) (sym c.requires.places) (c.requires.below x e) }
