use Rattle.std.proofs.Common.{List, [], ◌∷◌, map, subst}
use Rattle.certificate_data.specs.declared.allowance.Allowance.{Allowance}
use Rattle.certificate_lines.specs.declared.item.Wanted.TheVariants as want
use Rattle.certificate_data.specs.Tree.{bound}
use Rattle.certificate_data.specs.TreeValue.{allowance_of}
use Rattle.certificate_text.specs.Trees.{leaf_items}
use Rattle.certificate_text.specs.Tests.{Tests}
use Rattle.certificate_text.proofs.PartsTested.{stuck_tested}
use Rattle.certificate_text.proofs.TreeFits.{seats_fitting}
use Rattle.certificate_text.proofs.fitting.leaf_fits.Goals as goal

pub returns-in-Stuck : goal.returns-in-Stuck
returns-in-Stuck c format levels = rw c.in-Stuck.is (stuck_tested format levels c.in-Stuck.county c.is_code.result c.is_code.ensures)

pub returns-in-Seats : goal.returns-in-Seats
returns-in-Seats c format levels = rw c.in-Seats.is (seats_fitting format levels)

pub returns-in-Bound : goal.returns-in-Bound
returns-in-Bound c format levels =
    rw c.in-Bound.is
    (subst (λ (l : List Allowance). Tests (want.Tree format levels ∷ []) (leaf_items (bound (map allowance_of l))) [] c.bound_fits.result) c.deref.ensures.value (c.bound_fits.ensures format levels))
