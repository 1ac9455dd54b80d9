use Rattle.std.proofs.Common.{refl}
use Rattle.std.proofs.lemmas.Result.{err_from_is_err_and}
use Rattle.certificate_lines.specs.declared.item.Item.TheVariants as item
use Rattle.certificate_lines.specs.declared.item.Wanted.TheVariants as want
use Rattle.certificate_text.proofs.WriteLaws.{run_goes, run_stops}
use Rattle.board_report.proofs.event_writing.push_groups.Goals as goal

pub returns-in_err-push_group : goal.returns-in_err-push_group
returns-in_err-push_group c =
    let p = err_from_is_err_and c.from_residual.result c.from_residual.ensures.1 in
    rw (p.1, p.2)
    (λ e. run_stops want.Groups item.Grouped (λ n x. refl) c.args.groups.now c.loop-group.group-index c.group-item.result c.args.out.now.items c.loop-group.out.items c.group-item.is c.loop-group-test.true c.loop-group.invariant (c.in_err-push_group.ensures e))

pub loop-group-preserved : goal.loop-group-preserved
loop-group-preserved c =
    let h = c.in_ok-push_group.ensures in
    run_goes want.Groups item.Grouped (λ n x. refl) c.args.groups.now c.loop-group.group-index c.group-item.result c.args.out.now.items c.loop-group.out.items c.push_group.new.out.items c.group-item.is c.loop-group-test.true c.loop-group.invariant h.fits h.text
