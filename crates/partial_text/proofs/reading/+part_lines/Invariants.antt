use Rattle.std.proofs.Common.{◌≤◌, ◌+◌, ◌*◌, [], ◌∷◌, ◌++◌, length, All}
use Rattle.std.specs.List.{flat_map}
use Rattle.certificate_lines.specs.Reading.{ReadsItems}
use Rattle.certificate_lines.specs.declared.item.Wanted.TheVariants as want
use Rattle.partial_trees.specs.PartialValue.{list_of_begun}
use Rattle.partial_trees.specs.OpenBranches.{BranchesOfTakesAreOpen}
use Rattle.partial_text.specs.PartItems.{items_of_begun}
use Rattle.partial_text.specs.Reading.{part_branch_items, IsWholeBranch, StayOpen, StayOpenBefore}
use Rattle.partial_text.proofs.reading.+part_lines.Given as goal

abbrev pub decreases-takes_at : goal.decreases-takes_at
decreases-takes_at l = 2 * l.levels

abbrev pub decreases-part_at : goal.decreases-part_at
decreases-part_at l = 2 * l.levels + 1

abbrev pub invariant-takes_at-taking : goal.invariant-takes_at-taking
invariant-takes_at-taking l = record {
  read : ReadsItems (want.PartTakes l.format l.levels ∷ []) l.fn.cursor (items_of_begun (list_of_begun l.takes.items)) (want.PartTakes l.format l.levels ∷ []) l.cursor;
  opened : BranchesOfTakesAreOpen (list_of_begun l.takes.items);
  rest : length l.cursor.text ≤ length l.fn.cursor.text;
}

abbrev pub decreases-takes_at-taking : goal.decreases-takes_at-taking
decreases-takes_at-taking l = length l.cursor.text

abbrev pub invariant-part_at-branching : goal.invariant-part_at-branching
invariant-part_at-branching l = record {
  read : ReadsItems (want.Part l.format l.fn.levels ∷ []) l.fn.cursor (flat_map part_branch_items (l.branches.items ++ l.later.items)) (want.Part l.format l.levels ∷ []) l.cursor;
  stay : StayOpen l.branches.items;
  before : StayOpenBefore l.later.items;
  whole : All IsWholeBranch l.later.items;
  levels : l.levels ≤ l.fn.levels;
  rest : length l.cursor.text ≤ length l.fn.cursor.text;
}

abbrev pub decreases-part_at-branching : goal.decreases-part_at-branching
decreases-part_at-branching l = length l.cursor.text
