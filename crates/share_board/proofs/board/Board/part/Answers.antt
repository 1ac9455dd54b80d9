use Rattle.std.proofs.Common.{◌+◌, length, inr, sym, ◌∙◌, arith}
use Rattle.std.proofs.lemmas.Bool.{false≢true}
use Rattle.county_problem.specs.ProblemValue.{problem_of}
use Rattle.board_laws.specs.Content.{part_piece, Parted}
use Rattle.partial_trees.specs.PartialValue.{partial_of}
use Rattle.share_board.specs.Replies.{PartReply}
use Rattle.share_board.specs.BoardValue.{reply_of}
use Rattle.share_board.proofs.Filling.{stands}
use Rattle.share_board.proofs.Lists.{lists_kept}
use Rattle.share_board.proofs.Telling.{refusal_told, not_part_told, part_refusal_told, many_parts_told, part_told, part_refusal_leads, kept_leads, divided_leads, some_open}
use Rattle.share_board.proofs.board.Board.part.Goals.{then-held-ge65536-via-then-held-ge65536, then-held-ge65536-via-else-held-ge65536+then-len-held}
use Rattle.share_board.proofs.board.Board.part.Goals as goal

pub returns-in-Err-clause-says : goal.returns-in-Err-clause-says
returns-in-Err-clause-says g c = λ depth b is.
    let board = c.args.self.now in
    let answer = reply_of board.round.order g.C.CountySet.test c.in-Err.reply in
    inr (refusal_told g.C.CountySet.test board b is c.args.number c.args.piece answer (PartReply (problem_of board.problem) board.budget b (partial_of c.args.tree) answer) c.in-Err.ensures.refused)

pub returns-then-not-is_part-clause-says : goal.returns-then-not-is_part-clause-says
returns-then-not-is_part-clause-says g c = λ depth b is.
    not_part_told g.C.CountySet.test c.args.self.now b is c.args.number c.args.piece c.in-Ok.at depth (partial_of c.args.tree) c.in-Ok.ensures.waits (λ part. false≢true (sym c.if-not-is_part.true ∙ c.is_part.ensures.1 part))

pub returns-in-Err-states_of-clause-leads : goal.returns-in-Err-states_of-clause-leads
returns-in-Err-states_of-clause-leads g c = λ depth b is.
    let board = c.args.self.now in
    let tree = partial_of c.args.tree in
    let answer = reply_of board.round.order g.C.CountySet.test c.in-Err-states_of.reply in
    kept_leads g.C.CountySet.test board b is c.in-Ok.at depth (part_piece c.args.number c.args.piece tree) answer c.in-Ok.ensures.waits.2
    (λ s h. part_refusal_leads (problem_of board.problem) board.budget b.round s tree depth b (part_piece c.args.number c.args.piece tree) answer (c.in-Err-states_of.ensures.refused b s is h))

pub returns-in-Err-states_of-clause-says : goal.returns-in-Err-states_of-clause-says
returns-in-Err-states_of-clause-says g c = λ depth b is.
    let test = g.C.CountySet.test in
    let board = c.args.self.now in
    part_refusal_told test board b is c.args.number c.args.piece c.in-Ok.at depth (partial_of c.args.tree) (reply_of board.round.order test c.in-Err-states_of.reply) c.in-Ok.ensures.waits (c.is_part.ensures.0 c.if-not-is_part.false)
    (λ s h. c.in-Err-states_of.ensures.refused b s is h)

pub returns-then-held-ge65536-clause-says : goal.returns-then-held-ge65536-clause-says
returns-then-held-ge65536-clause-says g c = λ depth b is.
    let tree = partial_of c.args.tree in
    let is_part = c.is_part.ensures.0 c.if-not-is_part.false in
    many_parts_told g.C.CountySet.test c.args.self.now b is c.args.number c.args.piece c.in-Ok.at depth tree c.in-Ok-states_of.states.items c.in-Ok.ensures.waits (λ s h. c.in-Ok-states_of.ensures.states b s is h is_part)
    (elim c.then-held-ge65536.branch [
      | then-held-ge65536-via-then-held-ge65536 v ↦ omega (arith, v.if-held-ge65536.true, c.len-held.ensures, some_open tree is_part)
      | then-held-ge65536-via-else-held-ge65536+then-len-held v ↦ omega (arith, v.if-held-ge65536.false, v.len.ensures, v.if-len-held.true, c.len-held.ensures, c.in-Ok-states_of.ensures.leaves)
    ])

pub returns-in-Ok-put_part-clause-leads : goal.returns-in-Ok-put_part-clause-leads
returns-in-Ok-put_part-clause-leads g c = λ depth b is.
    let board = c.args.self.now in
    let tree = partial_of c.args.tree in
    let here = stands g.C.CountySet.test board b is c.in-Ok.at c.in-Ok.ensures.waits.2 in
    let may = c.in-Ok-states_of.ensures.states b here.0 is here.1 (c.is_part.ensures.0 c.if-not-is_part.false) in
    divided_leads g.C.CountySet.test board b is (λ n first many x. Parted (problem_of board.problem) b n tree first many x) c.args.number c.args.piece c.in-Ok.at (c.len-2.result + 1) c.len-count.result (length board.fates.items + 1)
    (length c.in-Ok-states_of.states.items) c.put_part.new.self c.in-Ok.ensures.waits (c.in-Ok-put_part.ensures.parted b here.0 is may) (omega (arith, c.len-2.ensures)) (omega (arith, c.len-count.ensures))

pub returns-in-Ok-put_part-clause-says : goal.returns-in-Ok-put_part-clause-says
returns-in-Ok-put_part-clause-says g c = λ depth b is.
    let leaves = c.in-Ok-states_of.ensures.leaves in
    part_told g.C.CountySet.test c.args.self.now b is c.args.number c.args.piece c.in-Ok.at depth (c.len-2.result + 1) c.len-count.result (partial_of c.args.tree) c.in-Ok-states_of.states.items c.in-Ok.ensures.waits
    (λ s h. c.in-Ok-states_of.ensures.states b s is h (c.is_part.ensures.0 c.if-not-is_part.false))
    (omega (arith, c.len-held.ensures, c.len.ensures, c.if-held-ge65536.false, c.if-len-held.false, leaves))
    (omega (arith, c.len-2.ensures)) (omega (arith, c.len-count.ensures, leaves))

pub returns-in-Ok-put_part-clause-lists : goal.returns-in-Ok-put_part-clause-lists
returns-in-Ok-put_part-clause-lists g c = lists_kept g.C.CountySet.test c.args.self.now c.put_part.new.self c.states_of.new.lists c.put_part.ensures.keeps c.states_of.ensures.lists

pub returns-in-Err-put_part-clause-lists : goal.returns-in-Err-put_part-clause-lists
returns-in-Err-put_part-clause-lists g c = lists_kept g.C.CountySet.test c.args.self.now c.put_part.new.self c.states_of.new.lists c.put_part.ensures.keeps c.states_of.ensures.lists
