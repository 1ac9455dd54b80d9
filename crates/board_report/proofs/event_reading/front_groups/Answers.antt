use Rattle.std.proofs.Common.{List, [], ◌++◌, map, subst, append-nil}
use Rattle.certificate_lines.specs.Items.{groups_wanted}
use Rattle.certificate_lines.specs.Fitting.{AllFit}
use Rattle.certificate_lines.specs.declared.item.Item.{Item}
use Rattle.certificate_lines.specs.declared.item.Item.TheVariants as item
use Rattle.certificate_lines.specs.declared.item.Wanted.{Wanted}
use Rattle.board_report.proofs.event_reading.front_groups.Goals as goal

pub returns-clause-fits : goal.returns-clause-fits
returns-clause-fits c =
    let items = map item.Grouped c.in_ok-groups.groups.items in
    let wanted = groups_wanted c.args.count in
    subst (λ (w : List Wanted). AllFit w items) (append-nil wanted)
    (subst (λ (l : List Item). AllFit (wanted ++ []) l) (append-nil items) (c.in_ok-groups.ensures.read.fits [] [] tt))
