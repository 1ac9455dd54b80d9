use Rattle.std.proofs.Common.{◌≡◌, length}
use Rattle.certificate_checker.proofs.feed.first_fault.Given as goal

abbrev pub invariant-loop-fault : goal.invariant-loop-fault
invariant-loop-fault l = ◌≡◌ l.items.fault l.fn.items.fault

abbrev pub decreases-loop-fault : goal.decreases-loop-fault
decreases-loop-fault l = length l.items.items
