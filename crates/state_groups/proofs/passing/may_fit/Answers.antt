use Rattle.std.proofs.Common.{ℕ, ◌-◌, List, Some, refl, sym, subst, length}
use Rattle.grouping_laws.specs.Problem.{people_of}
use Rattle.county_problem.specs.OrderedValue.{problem_at}
use Rattle.state_groups.specs.StateValue.{state_of}
use Rattle.state_groups.specs.People.{HasSeatWindow, IsDivided}
use Rattle.state_groups.proofs.RestPeople.{group_window, left_window, fits_rest}
use Rattle.state_groups.proofs.passing.may_fit.Goals as goal

pub returns-in-None : goal.returns-in-None
returns-in-None g c =
    let p = problem_at c.args.input.now.graph.now.ordered.now in
    let n = length c.args.input.now.graph.now.ordered.now.order in
    let s = state_of g.C.CountySet.test c.args.test.now.state.now in
    λ h order small fits least greatest.
    let has = group_window p c.places-places.ensures.problem n refl s c.requires.rest h order (fits_rest c.args.test.now.format p s h fits) c.args.test.now.format fits c.args.test.now.tables.now.windows.items c.requires.windows in
    c.may_suit.ensures (people_of p h) least greatest (subst (λ (z : List (ℕ × ℕ)). HasSeatWindow z (people_of p h)) (sym c.deref.ensures.value) has)

pub returns-in-Some : goal.returns-in-Some
returns-in-Some g c =
    let p = problem_at c.args.input.now.graph.now.ordered.now in
    let n = length c.args.input.now.graph.now.ordered.now.order in
    let input = c.args.input.now in
    let it = c.args.test.now in
    let s = state_of g.C.CountySet.test it.state.now in
    let d : IsDivided it.format p n input.limit s.rest (Some c.in-Some.all) = subst (IsDivided it.format p n input.limit s.rest) c.in-Some.is c.requires.divided in
    λ h order small fits least greatest.
    let inside = fits_rest it.format p s h fits in
    let has = group_window p c.places-places.ensures.problem n refl s c.requires.rest h order inside it.format fits it.tables.now.windows.items c.requires.windows in
    let left = left_window p c.places-places.ensures.problem n refl s c.requires.rest h order inside it.format fits it.tables.now.windows.items c.requires.windows input.limit c.in-Some.all small d in
    c.may_divide.ensures (people_of p h) least greatest (subst (λ (z : List (ℕ × ℕ)). HasSeatWindow z (people_of p h)) (sym c.deref-in-Some.ensures.value) has)
    (subst (λ (z : List (ℕ × ℕ)). HasSeatWindow z (c.in-Some.all - people_of p h)) (sym c.deref-in-Some.ensures.value) left)
