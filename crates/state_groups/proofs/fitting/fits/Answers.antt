use Rattle.std.proofs.Common.{◌<◌, refl, ap, ◌∙◌, subst, sym, length, arith}
use Rattle.std.specs.Prelude.{IsTrue, ◌↔◌}
use Rattle.std.proofs.lemmas.Bool.{false≢true}
use Rattle.place_sets.specs.PlaceSets.{places_of}
use Rattle.place_sets.proofs.PlaceSums.{total_all}
use Rattle.grouping_laws.specs.Problem.{Suits}
use Rattle.grouping_laws.specs.SeatWindow.{IsRun, seat_run}
use Rattle.grouping_laws.proofs.WindowLemmas.{window_law}
use Rattle.county_problem.specs.ProblemValue.{ProblemValue, problem_of}
use Rattle.county_problem.specs.OrderedValue.{problem_at}
use Rattle.certificate_data.specs.declared.format.Format.TheVariants.{Plain, Wide}
use Rattle.state_groups.specs.StateValue.{state_of}
use Rattle.certificate_laws.specs.State.{open_to}
use Rattle.certificate_laws.specs.Fitting.{Fits, IsLive}
use Rattle.grouping_laws.specs.Sets.{Inside}
use Rattle.state_groups.proofs.StuckLemmas.{one_suits, none_suits}
use Rattle.state_groups.proofs.FitLemmas.{fits_by, if_ok}
use Rattle.state_groups.proofs.fitting.fits.Goals as goal

pub seats_range-requires : goal.seats_range-requires
seats_range-requires g c =
    let all = total_all (problem_at c.args.graph.now.ordered.now).people (length c.args.graph.now.ordered.now.order) (g.C.CountySet.test c.args.group.now) in
    omega (arith, all, c.requires.people, c.requires.graph.people, ap (λ (v : ProblemValue). v.total_people) c.problem.ensures.value)

pub returns-in-Plain : goal.returns-in-Plain
returns-in-Plain g c =
    let test = g.C.CountySet.test in
    let p = problem_at c.args.graph.now.ordered.now in
    let n = length c.args.graph.now.ordered.now.order in
    let s = state_of test c.args.state.now in
    let t = test c.args.group.now in
    let people = c.args.people in
    let problem = c.requires.graph.rows.problem in
    let law : IsRun (Suits p people) c.seats_range.result =
    subst (IsRun (Suits p people)) (sym (c.seats_range.ensures.value ∙ ap (λ (v : ProblemValue). seat_run (problem_of v) people) c.problem.ensures.value)) (window_law p problem.tolerated problem.some_people people) in
    let k = one_suits p people c.seats_range.result law c.if-is_none.ensures in
    let inside = subst (λ m. Inside (open_to s (length (places_of m t))) (places_of m t)) c.requires.places (c.is_open.ensures.0 c.if-not-is_open.false) in
    (λ e. subst (λ l. Fits l p s (places_of n t)) (sym c.in-Plain.is) (fits_by Plain p s n t refl c.requires.connected (k.0, subst (λ z. Suits p z k.0) c.requires.people k.1) inside tt), λ f. refl)

pub returns-in-Wide : goal.returns-in-Wide
returns-in-Wide g c =
    let test = g.C.CountySet.test in
    let p = problem_at c.args.graph.now.ordered.now in
    let n = length c.args.graph.now.ordered.now.order in
    let s = state_of test c.args.state.now in
    let t = test c.args.group.now in
    let people = c.args.people in
    let problem = c.requires.graph.rows.problem in
    let law : IsRun (Suits p people) c.seats_range.result =
    subst (IsRun (Suits p people)) (sym (c.seats_range.ensures.value ∙ ap (λ (v : ProblemValue). seat_run (problem_of v) people) c.problem.ensures.value)) (window_law p problem.tolerated problem.some_people people) in
    let k = one_suits p people c.seats_range.result law c.if-is_none.ensures in
    let inside = subst (λ m. Inside (open_to s (length (places_of m t))) (places_of m t)) c.requires.places (c.is_open.ensures.0 c.if-not-is_open.false) in
    if_ok c.is_live.result (λ live. IsTrue live ↔ IsLive p s (places_of n t)) (λ live. IsTrue live ↔ Fits c.args.format p s (places_of n t))
    (λ live h. (
      λ e. subst (λ l. Fits l p s (places_of n t)) (sym c.in-Wide.is) (fits_by Wide p s n t refl c.requires.connected (k.0, subst (λ z. Suits p z k.0) c.requires.people k.1) inside (h.0 e)),
      λ f. h.1 ((subst (λ l. Fits l p s (places_of n t)) c.in-Wide.is f).kept),
    ))
    c.is_live.ensures

pub returns-then-is_none : goal.returns-then-is_none
returns-then-is_none g c =
    let p = problem_at c.args.graph.now.ordered.now in
    let people = c.args.people in
    let problem = c.requires.graph.rows.problem in
    let law : IsRun (Suits p people) c.seats_range.result =
    subst (IsRun (Suits p people)) (sym (c.seats_range.ensures.value ∙ ap (λ (v : ProblemValue). seat_run (problem_of v) people) c.problem.ensures.value)) (window_law p problem.tolerated problem.some_people people) in
    (λ e. absurd (false≢true e), λ f. absurd (none_suits p people c.seats_range.result law c.if-is_none.ensures f.lawful.seats (subst (λ z. Suits p z f.lawful.seats) (sym c.requires.people) f.lawful.suits)))

pub is_open-requires : goal.is_open-requires
is_open-requires g c = record { below = λ x e. subst (λ m. x < m) (sym c.requires.places) (c.requires.group_below x e) }

pub returns-then-not-is_open : goal.returns-then-not-is_open
returns-then-not-is_open g c =
    let s = state_of g.C.CountySet.test c.args.state.now in
    let t = g.C.CountySet.test c.args.group.now in
    (λ e. absurd (false≢true e), λ f. c.if-not-is_open.ensures.1 (subst (λ m. Inside (open_to s (length (places_of m t))) (places_of m t)) (sym c.requires.places) f.inside))
