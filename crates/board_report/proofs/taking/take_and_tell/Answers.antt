use Rattle.std.proofs.Common.{[], ◌∷◌, append-nil, map, refl, sym, ◌∙◌, subst, arith}
use Rattle.std.proofs.lemmas.Iterator.Adapters.{YieldsList-from_vec}
use Rattle.std.proofs.lemmas.Iterator.Consumers.{YieldsList-end}
use Rattle.std.proofs.lemmas.List.{map-append, map-id}
use Rattle.share_board.specs.Events.{event_of}
use Rattle.share_board.proofs.Lists.{graph_kept}
use Rattle.board_report.specs.Taking.{HasTold}
use Rattle.board_report.proofs.InTurn.{told_more}
use Rattle.board_report.proofs.taking.take_and_tell.Goals as goal

pub loop-event-init : goal.loop-event-init
loop-event-init g c = record {
  can = tt;
  finite = tt;
  told = λ b is. (record { replies = []; last = b; takes = refl; is = is }, sym (append-nil c.args.text.now.items));
  keeps = record { problem = refl; depth = refl; budget = refl; order = refl };
  lists = c.requires.lists;
}

pub tell_one-requires-clause-board : goal.tell_one-requires-clause-board
tell_one-requires-clause-board g c = let f = c.loop-event.invariant.told c.requires.board.0 c.requires.board.1 in ((f.0).last, (f.0).is)

pub tell_one-requires-clause-ordered : goal.tell_one-requires-clause-ordered
tell_one-requires-clause-ordered g c = graph_kept c.args.board.now c.loop-event.board c.args.graph.now c.loop-event.invariant.keeps c.requires.ordered

pub loop-event-preserved : goal.loop-event-preserved
loop-event-preserved g c =
    let test = g.C.CountySet.test in
    let before = c.args.board.now in
    let inv = c.loop-event.invariant in
    let start = c.args.text.now.items in
    let event = c.in-Some.event in
    record {
      can = tt;
      finite = tt;
      told = λ b is.
          subst (λ z. HasTold test before b z c.tell_one.new.board start c.tell_one.new.text.items) (sym (map-append event_of c.loop-event.yielded (event ∷ [])))
          (told_more test before c.loop-event.board c.tell_one.new.board b (map event_of c.loop-event.yielded) (event_of event) start c.loop-event.text.items c.tell_one.new.text.items inv.keeps c.in_ok-tell_one.ensures.told (inv.told b is));
      keeps = record {
        problem = c.tell_one.ensures.keeps.problem ∙ inv.keeps.problem;
        depth = c.tell_one.ensures.keeps.depth ∙ inv.keeps.depth;
        budget = c.tell_one.ensures.keeps.budget ∙ inv.keeps.budget;
        order = c.tell_one.ensures.keeps.order ∙ inv.keeps.order;
      };
      lists = c.tell_one.ensures.lists;
    }

pub returns-clause-told : goal.returns-clause-told
returns-clause-told g c = λ b is.
    let test = g.C.CountySet.test in
    let gives = c.into_iter-event-iterator.ensures.into_iter_gives in
    let ended = YieldsList-end (YieldsList-from_vec {s = c.into_iter-event-iterator.result} c.args.events.items gives.0 (omega (arith, gives.1))) c.loop-event.yielded c.loop-event.event-iterator c.loop-event.yielded_by c.next.result c.next.new.self c.in-None.is c.next.ensures.steps in
    subst (λ z. HasTold test c.args.board.now b (map event_of z) c.loop-event.board c.args.text.now.items c.loop-event.text.items) (sym (map-id c.loop-event.yielded) ∙ ended.0) (c.loop-event.invariant.told b is)
