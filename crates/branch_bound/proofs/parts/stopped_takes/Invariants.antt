use Rattle.std.proofs.Common.{◌≡◌, List, ◌++◌, ◌∷◌, take}
use Rattle.std.specs.List.{AllByRecursion}
use Rattle.certificate_data.specs.TreeValue.{list_of_takes}
use Rattle.certificate_lines.specs.Fitting.{AreCodes}
use Rattle.state_groups.specs.PlacedValues.{codes_of_set, codes_of_sets}
use Rattle.board_laws.specs.PartialTrees.{take_begun}
use Rattle.partial_trees.specs.PartialValue.{partial_of, list_of_begun}
use Rattle.partial_trees.specs.declared.tree.PartialTake.{PartialTake}
use Rattle.branch_bound.specs.Parts.{whole_takes}
use Rattle.branch_bound.proofs.OpenParts.{open_before}
use Rattle.branch_bound.proofs.parts.stopped_takes.Given as goal

abbrev pub invariant-loop-other : goal.invariant-loop-other
invariant-loop-other g l = record {
  takes : (more : List PartialTake)
      → list_of_begun (l.parts.items ++ more)
      ≡ whole_takes
      (list_of_takes l.fn.takes.items)
      (take_begun
      (codes_of_set l.input.graph.now.ordered.now.order g.C.CountySet.test l.group)
      (partial_of l.fn.part)
      (open_before (codes_of_sets l.input.graph.now.ordered.now.order g.C.CountySet.test (take l.other-index l.later)) (list_of_begun more)));
  small : AllByRecursion
      AreCodes
      (codes_of_set l.input.graph.now.ordered.now.order g.C.CountySet.test l.group ∷ codes_of_sets l.input.graph.now.ordered.now.order g.C.CountySet.test (take l.other-index l.later));
}
