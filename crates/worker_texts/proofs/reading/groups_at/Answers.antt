use Rattle.std.proofs.Common.{◌+◌, ◌-◌, sym, subst}
use Rattle.std.proofs.lemmas.Result.{err_from_is_err_and}
use Rattle.grouping_laws.specs.Grouping.{Grouping}
use Rattle.worker_texts.proofs.GroupLines.{GroupsRead, groups_step, groups_fault}
use Rattle.worker_texts.proofs.reading.groups_at.Goals as goal

pub returns-in_err-group-clause-read : goal.returns-in_err-group-clause-read
returns-in_err-group-clause-read c =
    let p = err_from_is_err_and c.from_residual.result c.from_residual.ensures.1 in
    rw (p.1, p.2)
    (λ other. groups_fault c.args.count c.loop-done.done c.loop-done-test.true c.args.cursor.now c.loop-done.cursor c.loop-done.groups.items c.loop-done.invariant _ (c.in_err-group.ensures other))

pub loop-done-preserved : goal.loop-done-preserved
loop-done-preserved c =
    subst (λ (gs : Grouping). GroupsRead c.args.count c.args.cursor.now gs (c.args.count - (c.loop-done.done + 1)) c.group.new.self) (sym c.in_ok-push_on.ensures.pushed)
    (groups_step c.args.count c.loop-done.done c.loop-done-test.true c.args.cursor.now c.loop-done.cursor c.loop-done.groups.items c.loop-done.invariant c.in_ok-group.group c.group.new.self c.in_ok-group.ensures)
