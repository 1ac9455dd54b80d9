use Rattle.std.proofs.Common.{[], ◌∷◌, take, All, sym, subst, arith, take_all}
use Rattle.std.proofs.lemmas.List.Elements.{All-append}
use Rattle.certificate_data.proofs.ListLaws.{taken_more}
use Rattle.partial_text.specs.Reading.{IsWholeTake}
use Rattle.partial_text.proofs.PartLists.{open_at, one_of}
use Rattle.partial_text.proofs.reading.have_open_leaf.Goals as goal

pub returns-then-not-is_whole-clause-some : goal.returns-then-not-is_whole-clause-some
returns-then-not-is_whole-clause-some c e =
    let at = open_at c.args.takes.now c.loop-take.take-index c.take-item.result c.take-item.is c.loop-take-test.true c.requires in
    at.some (c.is_whole.ensures.opened c.if-not-is_whole.true at.opened)

pub loop-take-preserved : goal.loop-take-preserved
loop-take-preserved c =
    let x = c.take-item.result in
    subst (All IsWholeTake) (sym (taken_more c.args.takes.now c.loop-take.take-index x c.take-item.is c.loop-take-test.true))
    (All-append IsWholeTake (take c.loop-take.take-index c.args.takes.now) (x ∷ []) c.loop-take.invariant (one_of IsWholeTake x (c.is_whole.ensures.whole c.if-not-is_whole.false)))

pub returns-clause-none : goal.returns-clause-none
returns-clause-none c e =
    subst (All IsWholeTake) (take_all c.loop-take.take-index c.args.takes.now (omega arith)) c.loop-take.invariant
