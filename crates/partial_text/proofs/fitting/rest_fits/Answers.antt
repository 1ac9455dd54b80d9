use Rattle.std.proofs.Common.{[], ◌∷◌, Option, sym, subst}
use Rattle.certificate_data.specs.TreeValue.{tree_of}
use Rattle.certificate_data.specs.declared.tree.Tree.{Tree as DeclaredTree}
use Rattle.certificate_lines.specs.declared.item.Wanted.TheVariants as want
use Rattle.certificate_text.specs.Tests.{Fitting, Tests}
use Rattle.partial_trees.specs.PartialValue.{rest_of}
use Rattle.partial_text.specs.PartItems.{items_of_part}
use Rattle.partial_text.proofs.PartFits.{whole_tested, open_fitting}
use Rattle.partial_text.proofs.fitting.rest_fits.Goals as goal

pub returns-in-Some : goal.returns-in-Some
returns-in-Some c =
    subst (λ (r : Option DeclaredTree). Tests (want.Part c.args.format c.args.levels ∷ []) (items_of_part (rest_of r)) [] c.tree_fits.result) (sym c.in-Some.is)
    (whole_tested c.args.format c.args.levels (tree_of c.in-Some.tree) c.tree_fits.result c.tree_fits.ensures)

pub returns-in-None : goal.returns-in-None
returns-in-None c =
    subst (λ (r : Option DeclaredTree). Fitting (want.Part c.args.format c.args.levels ∷ []) (items_of_part (rest_of r)) []) (sym c.in-None.is)
    (open_fitting c.args.format c.args.levels)
