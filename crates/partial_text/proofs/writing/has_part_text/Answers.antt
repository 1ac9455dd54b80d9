use Rattle.std.proofs.Common.{[], ◌∷◌, ℕ, Bool, true, false, refl, IsTrue, ◌↔◌, ◌∙◌, sym}
use Rattle.std.proofs.lemmas.Bool.{false≢true}
use Rattle.certificate_data.specs.declared.format.Format.{Format}
use Rattle.certificate_lines.specs.Spelling.{text_of_items}
use Rattle.certificate_lines.specs.declared.item.Wanted.TheVariants as want
use Rattle.certificate_text.specs.Tests.{Tests}
use Rattle.certificate_text.proofs.FitLaws.{whole, unfit_whole}
use Rattle.board_laws.specs.PartialTrees.{PartialTree}
use Rattle.partial_trees.specs.PartialValue.{partial_of}
use Rattle.partial_trees.specs.OpenBranches.{BranchesAreOpen}
use Rattle.partial_text.specs.PartItems.{items_of_part}
use Rattle.partial_text.specs.Spelling.{IsPartSpelling}
use Rattle.partial_text.proofs.writing.has_part_text.Goals as goal

told : (format : Format) (counties : ℕ) (t : PartialTree) (r : Bool) → BranchesAreOpen t → Tests (want.Part format counties ∷ []) (items_of_part t) [] r → IsTrue r ↔ ((text : _) × IsPartSpelling format counties text t)
told format counties t true opened h = ((λ e. (text_of_items (items_of_part t), record { opened = opened; fits = whole (want.Part format counties) (items_of_part t) h; text_is = refl })), (λ s. refl))
told format counties t false opened h = ((λ e. absurd (false≢true e)), (λ s. absurd (unfit_whole (want.Part format counties) (items_of_part t) h s.1.fits)))

pub returns-then-not-branches_are_open : goal.returns-then-not-branches_are_open
returns-then-not-branches_are_open c = ((λ e. absurd (false≢true e)), (λ s. absurd (false≢true (sym c.if-not-branches_are_open.true ∙ c.branches_are_open.ensures.1 s.1.opened))))

pub returns : goal.returns
returns c = told c.args.format c.args.counties (partial_of c.args.part.now) c.part_fits.result (c.branches_are_open.ensures.0 c.if-not-branches_are_open.false) c.part_fits.ensures
