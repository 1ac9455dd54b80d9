use Rattle.std.proofs.Common.{◌-◌}
use Rattle.worker_texts.proofs.GroupLines.{GroupsRead}
use Rattle.worker_texts.proofs.reading.groups_at.Given as goal

abbrev pub invariant-loop-done : goal.invariant-loop-done
invariant-loop-done l = GroupsRead l.count l.fn.cursor l.groups.items (l.count - l.done) l.cursor
