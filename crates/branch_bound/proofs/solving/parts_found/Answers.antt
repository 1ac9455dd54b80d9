use Rattle.std.proofs.Common.{sym, subst}
use Rattle.county_problem.specs.ProblemValue.{problem_of}
use Rattle.certificate_data.specs.RoundValue.{round_of}
use Rattle.certificate_laws.specs.State.{State, IsState}
use Rattle.certificate_laws.proofs.Branches.{branch_keeps_state}
use Rattle.branch_bound.proofs.solving.parts_found.Goals as goal

pub finished_grouping-requires-clause-state : goal.finished_grouping-requires-clause-state
finished_grouping-requires-clause-state g c =
    let p = problem_of c.args.graph.now.ordered.now.problem in
    let round = round_of c.args.round.now in
    subst (λ (s : State). IsState p round s) (sym c.requires.empty) ((branch_keeps_state).first_state p round)
