use Rattle.std.proofs.Common.{◌≤◌, ◌+◌, ◌*◌, [], ◌∷◌, take}
use Rattle.std.specs.List.{flat_map}
use Rattle.certificate_lines.specs.declared.item.Wanted.TheVariants as want
use Rattle.certificate_text.specs.Tests.{Fitting}
use Rattle.certificate_text.proofs.TreeViews.{items_of_branch, items_of_take}
use Rattle.certificate_text.proofs.fitting.+fitting.Given as goal

abbrev pub decreases-takes_fit : goal.decreases-takes_fit
decreases-takes_fit l = 2 * l.levels

abbrev pub decreases-tree_fits : goal.decreases-tree_fits
decreases-tree_fits l = 2 * l.levels + 1

abbrev pub invariant-takes_fit-taking : goal.invariant-takes_fit-taking
invariant-takes_fit-taking l = Fitting (want.Takes l.format l.levels ∷ []) (flat_map items_of_take (take l.take-index l.takes)) (want.Takes l.format l.levels ∷ [])

abbrev pub invariant-tree_fits-branching : goal.invariant-tree_fits-branching
invariant-tree_fits-branching l = record {
  fitting : Fitting (want.Tree l.format l.fn.levels ∷ []) (flat_map items_of_branch (take l.branch-index l.branch-items)) (want.Tree l.format l.levels ∷ []);
  levels : l.levels ≤ l.fn.levels;
}
