use Rattle.std.proofs.Common.{◌≡◌, ◌++◌, length}
use Rattle.std.specs.List.{flat_map}
use Rattle.std.specs.Vec.Iter.{into_iter_items, into_iter_len}
use Rattle.certificate_text.specs.Writing.{branch_items}
use Rattle.partial_text.specs.Reading.{part_branch_items}
use Rattle.partial_text.proofs.reading.whole_branches.Given as goal

abbrev pub invariant-loop-branch : goal.invariant-loop-branch
invariant-loop-branch l = record {
  all : l.yielded ++ into_iter_items l.branch-iterator ≡ l.fn.branches.items;
  items : flat_map branch_items l.whole.items ≡ flat_map part_branch_items l.yielded;
  long : into_iter_len l.branch-iterator ≡ length (into_iter_items l.branch-iterator);
}
