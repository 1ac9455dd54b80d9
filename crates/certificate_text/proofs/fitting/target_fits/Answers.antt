use Rattle.std.proofs.Common.{List, [], ◌∷◌, Some, subst}
use Rattle.county_codes.specs.declared.group.Group.{Group}
use Rattle.certificate_lines.specs.declared.item.Wanted.TheVariants as want
use Rattle.certificate_text.specs.Trees.{items_of_target}
use Rattle.certificate_text.specs.Tests.{Tests}
use Rattle.certificate_text.proofs.PartsTested.{no_target}
use Rattle.certificate_text.proofs.fitting.target_fits.Goals as goal

pub returns-in-Some : goal.returns-in-Some
returns-in-Some c =
    rw c.in-Some.is
    (subst (λ (gs : List Group). Tests (want.Target ∷ []) (items_of_target (Some gs)) [] c.counted_groups_fit.result) c.deref.ensures.value c.counted_groups_fit.ensures)

pub returns-in-None : goal.returns-in-None
returns-in-None c = rw c.in-None.is no_target
