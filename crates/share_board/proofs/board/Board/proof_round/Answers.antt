use Rattle.std.proofs.Common.{sym, subst}
use Rattle.county_problem.specs.ProblemValue.{problem_of}
use Rattle.grouping_laws.specs.GroupsFrom.{IsOrder}
use Rattle.certificate_data.specs.Round.{Round}
use Rattle.certificate_laws.specs.State.{IsState, empty_state}
use Rattle.certificate_laws.proofs.Agreement.{empty_is_state}
use Rattle.board_laws.proofs.Pieces.{pieces_stand}
use Rattle.share_board.proofs.board.Board.proof_round.Goals as goal

pub returns-clause-order : goal.returns-clause-order
returns-clause-order g c = λ b is. subst (λ (z : Round). IsOrder (problem_of c.args.self.now.problem) z.order) (sym is.round) is.content.order

pub returns-clause-states : goal.returns-clause-states
returns-clause-states g c = λ b n s is stand.
    let p = problem_of c.args.self.now.problem in
    subst (λ (z : Round). IsState p z s) (sym is.round) ((pieces_stand).state b.skeleton p b.round (empty_state p) n s (empty_is_state p b.round) is.content.skeleton stand)
