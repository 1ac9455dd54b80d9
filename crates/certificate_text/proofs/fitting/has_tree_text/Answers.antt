use Rattle.std.proofs.Common.{[], ◌∷◌, Bool, true, false, refl, IsTrue, ◌↔◌}
use Rattle.certificate_data.specs.declared.format.Format.{Format}
use Rattle.certificate_data.specs.Tree.{Tree}
use Rattle.certificate_lines.specs.Spelling.{text_of_items}
use Rattle.certificate_lines.specs.declared.item.Wanted.TheVariants as want
use Rattle.certificate_data.specs.TreeValue.{tree_of}
use Rattle.certificate_text.specs.Trees.{items_of_tree}
use Rattle.certificate_text.specs.Spelling.{IsTreeSpelling}
use Rattle.certificate_text.specs.Tests.{Tests}
use Rattle.certificate_text.proofs.FitLaws.{whole, unfit_whole}
use Rattle.certificate_text.proofs.fitting.has_tree_text.Goals as goal

told : (format : Format) (counties : _) (tree : Tree) (r : Bool) → Tests (want.Tree format counties ∷ []) (items_of_tree tree) [] r → IsTrue r ↔ ((text : _) × IsTreeSpelling format counties text tree)
told format counties tree true h = ((λ e. (text_of_items (items_of_tree tree), record { fits = whole (want.Tree format counties) (items_of_tree tree) h; text_is = refl })), (λ s. refl))
told format counties tree false h = ((λ e. cc), (λ s. absurd (unfit_whole (want.Tree format counties) (items_of_tree tree) h s.1.fits)))

pub returns : goal.returns
returns c = told c.args.format c.args.counties (tree_of c.args.tree.now) c.tree_fits.result c.tree_fits.ensures
