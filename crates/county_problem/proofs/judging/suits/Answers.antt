use Rattle.std.proofs.Common.{◌≡◌, ◌∙◌, sym, ap}
use Rattle.grouping_laws.specs.Problem.{Suits, people_of}
use Rattle.county_problem.specs.ProblemValue.{problem_of}
use Rattle.county_problem.proofs.JudgeLemmas.{from_least, below_least, no_run}
use Rattle.county_problem.proofs.judging.suits.Goals as goal

pub returns-then-least-group : goal.returns-then-least-group
returns-then-least-group c =
    let p = problem_of c.args.problem.now in
    let people : c.people_of-people.result ≡ people_of p c.args.group.now.codes = c.people_of-people.ensures.value ∙ ap (people_of p) c.as_slice.ensures in
    rw (sym people) (from_least (Suits p c.people_of-people.result) c.in-Some.least c.in-Some.greatest c.args.group.now.seats c.if-least-group.true c.in-Some.ensures.law)

pub returns-else-least-group : goal.returns-else-least-group
returns-else-least-group c =
    let p = problem_of c.args.problem.now in
    let people : c.people_of-people.result ≡ people_of p c.args.group.now.codes = c.people_of-people.ensures.value ∙ ap (people_of p) c.as_slice.ensures in
    rw (sym people) (below_least (Suits p c.people_of-people.result) c.in-Some.least c.in-Some.greatest c.args.group.now.seats c.if-least-group.false c.in-Some.ensures.law)

pub returns-in-None : goal.returns-in-None
returns-in-None c =
    let p = problem_of c.args.problem.now in
    let people : c.people_of-people.result ≡ people_of p c.args.group.now.codes = c.people_of-people.ensures.value ∙ ap (people_of p) c.as_slice.ensures in
    rw (sym people) (no_run (Suits p c.people_of-people.result) c.args.group.now.seats c.in-None.ensures.law)
