use Rattle.std.proofs.Common.{◌≡◌, List, ◌++◌}
use Rattle.certificate_data.specs.TreeValue.{list_of_takes}
use Rattle.partial_trees.specs.PartialValue.{list_of_begun}
use Rattle.partial_trees.specs.declared.tree.PartialTake.{PartialTake}
use Rattle.branch_bound.specs.Parts.{whole_takes}
use Rattle.branch_bound.proofs.parts.whole_parts.Given as goal

abbrev pub invariant-loop-take : goal.invariant-loop-take
invariant-loop-take l = record {
  can : (goal.iterator-loop-take).can_next l.take-iterator;
  finite : (goal.iterator-loop-take).is_finite l.take-iterator;
  takes : (more : List PartialTake) → list_of_begun (l.parts.items ++ more) ≡ whole_takes (list_of_takes l.yielded) (list_of_begun more);
}
