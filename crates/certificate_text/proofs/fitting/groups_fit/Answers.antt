use Rattle.std.proofs.Common.{refl}
use Rattle.certificate_lines.specs.declared.item.Item.TheVariants as item
use Rattle.certificate_lines.specs.declared.item.Wanted.TheVariants as want
use Rattle.certificate_text.proofs.FitLaws.{run_goes, run_stops}
use Rattle.certificate_text.proofs.fitting.groups_fit.Goals as goal

pub returns-then-not-group_fits : goal.returns-then-not-group_fits
returns-then-not-group_fits c =
    run_stops want.Groups item.Grouped (λ n x. refl) c.args.groups.now c.loop-group.group-index c.group-item.result c.group-item.is c.loop-group-test.true c.loop-group.invariant
    (λ h.
    let yes = c.group_fits.ensures.1 h in
    cc (yes, c.if-not-group_fits.true))

pub loop-group-preserved : goal.loop-group-preserved
loop-group-preserved c =
    run_goes want.Groups item.Grouped (λ n x. refl) c.args.groups.now c.loop-group.group-index c.group-item.result c.group-item.is c.loop-group-test.true c.loop-group.invariant (c.group_fits.ensures.0 c.if-not-group_fits.false)
