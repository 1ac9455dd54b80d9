use Rattle.std.proofs.Common.{[], ◌∷◌}
use Rattle.certificate_text.specs.Spelling.{IsTreeSpelling}
use Rattle.certificate_data.specs.TreeValue.{tree_of}
use Rattle.certificate_text.specs.Trees.{items_of_tree}
use Rattle.certificate_lines.specs.declared.item.Wanted.TheVariants as want
use Rattle.certificate_text.proofs.GiveLaws.{gives_found, gives_fault, gives_only}
use Rattle.certificate_text.proofs.OneSpelling.{tree_told}
use Rattle.certificate_text.proofs.reading.read_tree.Goals as goal

pub returns-clause-found : goal.returns-clause-found
returns-clause-found c =
    gives_found (λ t. items_of_tree (tree_of t)) (want.Tree c.args.format c.args.counties ∷ []) c.args.text.now (λ t. IsTreeSpelling c.args.format c.args.counties c.args.text.now (tree_of t)) (λ x fits same. record { fits = fits; text_is = same }) c.whole_tree.result c.whole_tree.ensures

pub returns-clause-only : goal.returns-clause-only
returns-clause-only c x is = gives_only (λ t. tree_of t) items_of_tree tree_told (want.Tree c.args.format c.args.counties ∷ []) c.args.text.now x c.whole_tree.result is.fits is.text_is c.whole_tree.ensures

pub returns-clause-fault : goal.returns-clause-fault
returns-clause-fault c = gives_fault (λ t. items_of_tree (tree_of t)) (want.Tree c.args.format c.args.counties ∷ []) c.args.text.now c.whole_tree.result c.whole_tree.ensures
