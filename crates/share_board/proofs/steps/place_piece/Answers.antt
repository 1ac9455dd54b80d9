use Rattle.std.proofs.Common.{length, arith}
use Rattle.partial_trees.specs.PartialValue.{partial_of}
use Rattle.share_board.specs.Openings.{board_problem, board_round, board_state}
use Rattle.share_board.proofs.Branching.{placed}
use Rattle.share_board.proofs.Openings.{piece_more}
use Rattle.share_board.proofs.steps.place_piece.Goals as goal

pub returns-then-len-ge4096-clause-stopped : goal.returns-then-len-ge4096-clause-stopped
returns-then-len-ge4096-clause-stopped g c =
    let input = c.args.input.now in
    piece_more (board_problem input) (board_round input) c.args.depth (board_state input g.C.CountySet.test c.args.state) (length c.args.states.now.items) (omega (arith, c.if-len-ge4096.true, c.len.ensures))

pub returns-clause-opened : goal.returns-clause-opened
returns-clause-opened g c =
    let input = c.args.input.now in
    placed g.C.CountySet.test (board_problem input) (board_round input) input.graph.now.ordered.now.order c.args.depth c.args.states.now.items c.keep_state.new.states.items c.args.state (partial_of c.open_place.result) c.requires.input.order c.requires.placed c.requires.ends c.in_ok-keep_state.ensures c.open_place.ensures
