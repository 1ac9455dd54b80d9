use Rattle.std.proofs.Common.{◌≡◌, ◌++◌, length}
use Rattle.std.specs.Vec.Iter.{into_iter_items, into_iter_len}
use Rattle.partial_text.proofs.reading.push_all.Given as goal

abbrev pub invariant-loop-branch : goal.invariant-loop-branch
invariant-loop-branch l = record {
  all : l.yielded ++ into_iter_items l.branch-iterator ≡ l.fn.later.items;
  items : l.branches.items ≡ l.fn.branches.items ++ l.yielded;
  long : into_iter_len l.branch-iterator ≡ length (into_iter_items l.branch-iterator);
}
