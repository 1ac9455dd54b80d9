use Rattle.std.proofs.Common.{length, arith}
use Rattle.partial_trees.specs.PartialValue.{partial_of}
use Rattle.share_board.proofs.NewPieces.{on_err, stand_behind, moved, part_after}
use Rattle.share_board.proofs.board.Board.put_part.Goals as goal

pub returns-clause-parted : goal.returns-clause-parted
returns-clause-parted g c = λ b s is may.
    let board = c.args.self.now in
    let more = c.args.states.items in
    let f = c.in_ok-divide.ensures in
    part_after g.C.CountySet.test board b is c.args.at (partial_of c.args.tree) more c.divide.new.fates c.append.new.self s may c.requires.waits c.requires.leaves c.requires.few
    (omega (arith, f.count, c.len-count.ensures)) f.there f.back (f.shows (partial_of board.above) 0 b.skeleton is.shows) (f.forward is.forward)
    (stand_behind board.round.order g.C.CountySet.test board.states.items _ more c.append.new.self.items (length board.fates.items) c.len.result is.many (omega (arith, c.len.ensures)) c.truncate.ensures.items c.in_ok-append.ensures.items)

pub returns-in_err-divide-clause-same : goal.returns-in_err-divide-clause-same
returns-in_err-divide-clause-same g c = on_err c.from_residual-in_err-divide.result (λ b is.
    let board = c.args.self.now in
    let more = c.args.states.items in
    moved g.C.CountySet.test board b is c.divide.new.fates more c.append.new.self c.in_err-divide.ensures.same
    (stand_behind board.round.order g.C.CountySet.test board.states.items _ more c.append.new.self.items (length board.fates.items) c.len.result is.many (omega (arith, c.len.ensures)) c.truncate.ensures.items c.in_ok-append.ensures.items))
