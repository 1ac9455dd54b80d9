use Rattle.std.proofs.Common.{IfOk, subst}
use Rattle.certificate_laws.specs.Leaves.{IsStuck, IsOffSeats}
use Rattle.branch_bound.specs.Searching.{search_problem, search_state, IsNextMove}
use Rattle.branch_bound.proofs.Searches.{own}
use Rattle.branch_bound.proofs.judging.next_move.Goals as goal

pub returns-in-Ok-Some-clause-next_move : goal.returns-in-Ok-Some-clause-next_move
returns-in-Ok-Some-clause-next_move g c = rw c.in-Ok-Some.field-0-is at c.in-Ok-Some.ensures

pub move_at_sizes-requires-clause-at : goal.move_at_sizes-requires-clause-at
move_at_sizes-requires-clause-at g c =
    own g.row.C.Denot g.C.CountySet.test c.args.input.now (search_state c.args.input.now g.C.CountySet.test c.args.position.state) c.in-Ok.position c.in-Ok.ensures.at.0

pub move_at_sizes-requires-clause-no_stuck : goal.move_at_sizes-requires-clause-no_stuck
move_at_sizes-requires-clause-no_stuck g c =
    let none = rw c.in-Ok-None.field-0-is at c.in-Ok-None.ensures in
    λ x stuck. none.0 x (subst (λ z. IsStuck (search_problem c.args.input.now) (search_state c.args.input.now g.C.CountySet.test z) x) c.in-Ok.ensures.at.1 stuck)

pub move_at_sizes-requires-clause-no_seats : goal.move_at_sizes-requires-clause-no_seats
move_at_sizes-requires-clause-no_seats g c =
    let none = rw c.in-Ok-None.field-0-is at c.in-Ok-None.ensures in
    λ off. none.1 (subst (λ z. IsOffSeats (search_problem c.args.input.now) (search_state c.args.input.now g.C.CountySet.test z)) c.in-Ok.ensures.at.1 off)

pub returns-in-Ok-clause-next_move : goal.returns-in-Ok-clause-next_move
returns-in-Ok-clause-next_move g c =
    subst (λ z. IfOk c.move_at_sizes.result (IsNextMove g.C.CountySet.test c.args.input.now (search_state c.args.input.now g.C.CountySet.test z))) c.in-Ok.ensures.at.1 c.move_at_sizes.ensures.next_move
