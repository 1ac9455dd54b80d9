use Rattle.std.proofs.Common.{◌∙◌, sym}
use Rattle.std.proofs.lemmas.Bool.{false≢true}
use Rattle.county_problem.specs.ProblemValue.{problem_of}
use Rattle.county_problem.specs.OrderedValue.{problem_at}
use Rattle.state_groups.specs.StateValue.{state_of}
use Rattle.state_judge.proofs.LeafLemmas.{stuck_both}
use Rattle.search_groups.proofs.StuckPlaces.{none_cut, none_stuck}
use Rattle.search_groups.proofs.stuck_counties.stuck_county.Goals as goal

pub returns-then-not-branch : goal.returns-then-not-branch
returns-then-not-branch g c =
    let test = g.C.CountySet.test in
    let t = state_of test c.args.state.now in
    let laws = c.requires.graph in
    none_stuck (problem_of c.args.graph.now.ordered.now.problem) c.args.graph.now.ordered.now.order laws.order t c.requires.placed.rest laws.rows.problem
    (none_cut (problem_at c.args.graph.now.ordered.now) t (test c.in_ok-rest.rest) (test c.in_ok-none.none) c.in_ok-rest.ensures.places c.in_ok-none.ensures.places (λ cut. false≢true (sym c.if-not-branch.true ∙ c.in_ok-has_stuck_part.ensures.1 cut)))

pub returns-in-Some : goal.returns-in-Some
returns-in-Some g c =
    let found = rw c.in-Some.is at c.in_ok-place.ensures in
    let laws = c.requires.graph in
    (stuck_both (problem_of c.args.graph.now.ordered.now.problem) c.args.graph.now.ordered.now.order laws.order (state_of g.C.CountySet.test c.args.state.now) c.requires.placed.rest c.in-Some.place c.code.result laws.rows.problem (c.requires.placed.rest c.in-Some.place found.0) found.0 (sym c.code.ensures)).0 found.1

pub returns : goal.returns
returns g c =
    let laws = c.requires.graph in
    none_stuck (problem_of c.args.graph.now.ordered.now.problem) c.args.graph.now.ordered.now.order laws.order (state_of g.C.CountySet.test c.args.state.now) c.requires.placed.rest laws.rows.problem (rw c.in-None.is at c.in_ok-place.ensures)
