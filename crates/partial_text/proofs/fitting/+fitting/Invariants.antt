use Rattle.std.proofs.Common.{◌≤◌, ◌+◌, ◌*◌, [], ◌∷◌, take}
use Rattle.std.specs.List.{flat_map}
use Rattle.certificate_lines.specs.declared.item.Wanted.TheVariants as want
use Rattle.certificate_text.specs.Tests.{Fitting}
use Rattle.partial_text.specs.Reading.{part_branch_items, part_take_items}
use Rattle.partial_text.proofs.fitting.+fitting.Given as goal

abbrev pub decreases-takes_fit : goal.decreases-takes_fit
decreases-takes_fit l = 2 * l.levels

abbrev pub decreases-part_fits : goal.decreases-part_fits
decreases-part_fits l = 2 * l.levels + 1

abbrev pub invariant-takes_fit-taking : goal.invariant-takes_fit-taking
invariant-takes_fit-taking l = Fitting (want.PartTakes l.format l.levels ∷ []) (flat_map part_take_items (take l.take-index l.takes)) (want.PartTakes l.format l.levels ∷ [])

abbrev pub invariant-part_fits-branching : goal.invariant-part_fits-branching
invariant-part_fits-branching l = record {
  fitting : Fitting (want.Part l.format l.fn.levels ∷ []) (flat_map part_branch_items (take l.branch-index l.branch-items)) (want.Part l.format l.levels ∷ []);
  levels : l.levels ≤ l.fn.levels;
}
