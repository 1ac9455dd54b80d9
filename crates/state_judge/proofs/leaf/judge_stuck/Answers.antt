use Rattle.std.proofs.Common.{◌∙◌, sym, refl, inl, inr}
use Rattle.std.proofs.lemmas.Bool.{false≢true}
use Rattle.county_problem.specs.ProblemValue.{problem_of}
use Rattle.state_groups.specs.StateValue.{state_of}
use Rattle.checker_laws.specs.Fault.{WrongCounty, NotStuck}
use Rattle.state_judge.proofs.LeafLemmas.{rest_none, rest_at, stuck_both}
use Rattle.state_judge.proofs.leaf.judge_stuck.Goals as goal

pub returns-in_default : goal.returns-in_default
returns-in_default g c = (WrongCounty, refl, inl (refl, rest_none c.args.graph.now.ordered.now.order (state_of g.C.CountySet.test c.args.state.now) c.args.county c.in_default.ensures))

pub returns-then-not-has : goal.returns-then-not-has
returns-then-not-has g c =
    let at = c.in-Some.ensures in
    (WrongCounty, refl, inl (refl, rest_at (problem_of c.args.graph.now.ordered.now.problem) c.args.graph.now.ordered.now.order c.requires.graph.order (state_of g.C.CountySet.test c.args.state.now) c.requires.placed.rest c.in-Some.place c.args.county at.0 at.1 ∙ sym c.if-not-has.ensures.test))

pub returns-then-branch : goal.returns-then-branch
returns-then-branch g c =
    let at = c.in-Some.ensures in
    (stuck_both (problem_of c.args.graph.now.ordered.now.problem) c.args.graph.now.ordered.now.order c.requires.graph.order (state_of g.C.CountySet.test c.args.state.now) c.requires.placed.rest c.in-Some.place c.args.county c.requires.graph.rows.problem at.0 (sym c.if-not-has.ensures.test) at.1).0 (c.in_ok-is_stuck_at.ensures.0 c.if-branch.true)

pub returns : goal.returns
returns g c =
    let at = c.in-Some.ensures in
    let here = sym c.if-not-has.ensures.test in
    let p = problem_of c.args.graph.now.ordered.now.problem in
    let order = c.args.graph.now.ordered.now.order in
    let t = state_of g.C.CountySet.test c.args.state.now in (
      NotStuck,
      refl,
      inr (
        refl,
        rest_at p order c.requires.graph.order t c.requires.placed.rest c.in-Some.place c.args.county at.0 at.1 ∙ here,
        λ v. false≢true (sym c.if-branch.false ∙ c.in_ok-is_stuck_at.ensures.1 ((stuck_both p order c.requires.graph.order t c.requires.placed.rest c.in-Some.place c.args.county c.requires.graph.rows.problem at.0 here at.1).1 v)),
      ),
    )
