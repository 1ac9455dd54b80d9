use Rattle.std.proofs.Common.{◌∙◌, sym, refl}
use Rattle.std.proofs.lemmas.Bool.{false≢true}
use Rattle.county_problem.specs.ProblemValue.{problem_of}
use Rattle.state_groups.specs.StateValue.{state_of}
use Rattle.checker_laws.specs.Fault.{SeatsOpen}
use Rattle.state_judge.proofs.LeafLemmas.{seats_both}
use Rattle.state_judge.proofs.leaf.judge_seats.Goals as goal

pub returns-then-branch : goal.returns-then-branch
returns-then-branch g c = (seats_both (problem_of c.args.graph.now.ordered.now.problem) c.args.graph.now.ordered.now.order c.requires.graph.order (state_of g.C.CountySet.test c.args.state.now) c.requires.placed.rest c.requires.graph.rows.problem).0 (c.in_ok-is_off_seats.ensures.0 c.if-branch.true)

pub returns : goal.returns
returns g c =
    (SeatsOpen, refl, (refl, λ v. false≢true (sym c.if-branch.false ∙ c.in_ok-is_off_seats.ensures.1 ((seats_both (problem_of c.args.graph.now.ordered.now.problem) c.args.graph.now.ordered.now.order c.requires.graph.order (state_of g.C.CountySet.test c.args.state.now) c.requires.placed.rest c.requires.graph.rows.problem).1 v))))
