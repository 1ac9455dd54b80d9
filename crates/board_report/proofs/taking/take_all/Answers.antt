use Rattle.std.proofs.Common.{[], ◌∷◌, map, refl, sym, ◌∙◌, subst, arith}
use Rattle.std.proofs.lemmas.Iterator.Adapters.{YieldsList-from_vec}
use Rattle.std.proofs.lemmas.Iterator.Consumers.{YieldsList-end}
use Rattle.std.proofs.lemmas.List.{map-append, map-id}
use Rattle.share_board.specs.Events.{event_of}
use Rattle.share_board.proofs.Lists.{graph_kept}
use Rattle.board_report.specs.Taking.{HasHeard}
use Rattle.board_report.proofs.InTurn.{heard_more}
use Rattle.board_report.proofs.taking.take_all.Goals as goal

pub loop-event-init : goal.loop-event-init
loop-event-init g c = record {
  can = tt;
  finite = tt;
  heard = λ b is. (record { replies = []; last = b; takes = refl; is = is }, tt);
  keeps = record { problem = refl; depth = refl; budget = refl; order = refl };
  lists = c.requires.lists;
}

pub take_one-requires-clause-board : goal.take_one-requires-clause-board
take_one-requires-clause-board g c = let f = c.loop-event.invariant.heard c.requires.board.0 c.requires.board.1 in ((f.0).last, (f.0).is)

pub take_one-requires-clause-ordered : goal.take_one-requires-clause-ordered
take_one-requires-clause-ordered g c = graph_kept c.args.board.now c.loop-event.board c.args.graph.now c.loop-event.invariant.keeps c.requires.ordered

pub loop-event-preserved : goal.loop-event-preserved
loop-event-preserved g c =
    let test = g.C.CountySet.test in
    let before = c.args.board.now in
    let inv = c.loop-event.invariant in
    let event = c.in-Some.event in
    record {
      can = tt;
      finite = tt;
      heard = λ b is.
          subst (λ z. HasHeard test before b z c.take_one.new.board) (sym (map-append event_of c.loop-event.yielded (event ∷ [])))
          (heard_more test before c.loop-event.board c.take_one.new.board b (map event_of c.loop-event.yielded) (event_of event) inv.keeps c.in_ok-take_one.ensures.taken (inv.heard b is));
      keeps = record {
        problem = c.take_one.ensures.keeps.problem ∙ inv.keeps.problem;
        depth = c.take_one.ensures.keeps.depth ∙ inv.keeps.depth;
        budget = c.take_one.ensures.keeps.budget ∙ inv.keeps.budget;
        order = c.take_one.ensures.keeps.order ∙ inv.keeps.order;
      };
      lists = c.take_one.ensures.lists;
    }

pub returns-clause-heard : goal.returns-clause-heard
returns-clause-heard g c = λ b is.
    let test = g.C.CountySet.test in
    let gives = c.into_iter-event-iterator.ensures.into_iter_gives in
    let ended = YieldsList-end (YieldsList-from_vec {s = c.into_iter-event-iterator.result} c.args.events.items gives.0 (omega (arith, gives.1))) c.loop-event.yielded c.loop-event.event-iterator c.loop-event.yielded_by c.next.result c.next.new.self c.in-None.is c.next.ensures.steps in
    subst (λ z. HasHeard test c.args.board.now b (map event_of z) c.loop-event.board) (sym (map-id c.loop-event.yielded) ∙ ended.0) (c.loop-event.invariant.heard b is)
